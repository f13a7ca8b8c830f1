-- The laws of the writer.
pub mod TestLaws
pub mod ManyLaws
pub mod WordLaws
pub mod SizeLaws
pub mod PlaceLaws
pub mod FitLaws
pub mod WriteLaws
pub mod BackLaws
pub mod AnswerLaws
pub mod Examples
