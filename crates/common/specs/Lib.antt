-- The definitions that several crates' models share.
pub mod Choice
pub mod Each
pub mod First
pub mod Part
pub mod Front
pub mod Store
pub mod Refusal
