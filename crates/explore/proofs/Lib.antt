-- What the search finds, over any kind of rows.
pub mod TestLaws
pub mod WalkLaws
