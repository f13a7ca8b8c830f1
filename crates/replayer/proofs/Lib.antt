-- Laws of the program's output, for the proofs beside them.
pub mod OutputLaws
