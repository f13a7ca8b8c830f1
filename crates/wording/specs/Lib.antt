-- What the programs write, as lists of bytes.
pub mod Words
pub mod Numbers
pub mod Written
pub mod Lines
pub mod Answers
pub mod Steps
