-- Laws of reading, for the proofs beside them.
pub mod TextLaws
pub mod RunLaws
pub mod BackLaws
pub mod PlayedLaws
