-- What the program writes for its inputs.
pub mod Output
