-- What a text of the checker says: Texts has words and numbers at the front of a text, Runs the lines of a run.
pub mod Texts
pub mod Runs
