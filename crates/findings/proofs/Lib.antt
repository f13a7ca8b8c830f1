-- The laws of the rebuilt run and of what the search finds.
pub mod EndLaws
pub mod BackLaws
pub mod FindLaws
pub mod LengthLaws
pub mod RowLaws
