-- What the program writes for its input.
pub mod Output
