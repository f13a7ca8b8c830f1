-- What the program makes of its input.
pub mod Output
