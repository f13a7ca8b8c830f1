-- The search over any kind of rows.
pub mod Frame
pub mod Search
pub mod Found
