-- The laws of a move's outcome and of the look.
pub mod OutcomeLaws
pub mod LookLaws
pub mod ChangeLaws
