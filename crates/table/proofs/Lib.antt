-- The laws of the definitions, as proofs and later crates cite them.
pub mod EndLaws
pub mod PassLaws
pub mod FrameLaws
pub mod FieldLaws
pub mod ReadLaws
pub mod TurnLaws
pub mod ScanLaws
pub mod ListingLaws
pub mod GoodLaws
pub mod SystemLaws
pub mod BadLaws
pub mod WalkLaws
pub mod AnswerLaws
pub mod Examples
