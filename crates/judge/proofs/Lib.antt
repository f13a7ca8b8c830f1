-- The laws of the judge.
pub mod LookLaws
pub mod OutcomeLaws
pub mod StateLaws
pub mod MoveLaws
pub mod FirstLaws
pub mod RepeatLaws
pub mod OpenLaws
pub mod JudgingLaws
pub mod MemoryLaws
pub mod AnswerLaws
pub mod JudgeLaws
