-- Rows of masks.
pub mod Rows
pub mod Outcomes
pub mod Look
pub mod Changes
