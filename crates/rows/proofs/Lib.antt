-- The laws of rows and outcomes.
pub mod CoverLaws
pub mod OutcomeLaws
pub mod RowOfLaws
pub mod NormalLaws
pub mod LookLaws
pub mod ChangeLaws
