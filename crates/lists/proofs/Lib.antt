-- The laws of lists.
pub mod ManyLaws
pub mod JoinLaws
pub mod AtomLaws
pub mod ProductLaws
pub mod RowLaws
pub mod ListLaws
pub mod DecodedLaws
pub mod GoodLaws
pub mod BackLaws
pub mod Examples
