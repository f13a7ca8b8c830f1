-- Laws of what is said, for the proofs beside them and above.
pub mod SaidLaws
