-- The laws of the cautious functions.
pub mod JudgedLaws
pub mod ReplayedLaws
pub mod ConfirmedLaws
