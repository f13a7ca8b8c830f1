-- Run words and how they are played.
pub mod Play
