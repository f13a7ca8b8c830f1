-- Atoms as masks, and products as lists of them.
pub mod Masks
pub mod Products
pub mod Contained
pub mod Receive
pub mod Normal
pub mod Ranges
