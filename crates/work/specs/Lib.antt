-- Rows in lent words.
pub mod Layout
pub mod Append
pub mod Room
