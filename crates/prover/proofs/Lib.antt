-- Laws of what the program makes, for the proofs beside them.
pub mod OutputLaws
