-- The search at a system, and the run rebuilt from its rows.
pub mod Search
pub mod Rebuild
