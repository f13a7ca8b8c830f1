-- The laws of records and of the walk over them, as proofs and later crates cite them.
pub mod RecordLaws
pub mod WalkLaws
