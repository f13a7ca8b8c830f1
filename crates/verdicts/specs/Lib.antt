-- What is said of a verdict.
pub mod Said
