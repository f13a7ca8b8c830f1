-- The judge's answer, as a definition on a system and a list of rows.
pub mod Judge
