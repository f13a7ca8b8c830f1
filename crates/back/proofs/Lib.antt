-- The laws of the needed words in local memory.
pub mod NeedLaws
pub mod MoveLaws
