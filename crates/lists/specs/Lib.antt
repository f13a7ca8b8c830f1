-- Proof lists: their bytes, how they are read, and what reading leaves in lent memory. Read the files in this order.
pub mod Format
pub mod Reading
pub mod Answers
pub mod Loading
pub mod Steps
