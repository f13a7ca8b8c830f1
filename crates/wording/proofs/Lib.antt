-- Laws of texts, for the proofs beside them.
pub mod NumberLaws
pub mod WrittenLaws
pub mod LineLaws
pub mod StepLaws
pub mod Examples
