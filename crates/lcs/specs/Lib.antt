-- What the C functions answer and leave in lent memory: one definition each, so that there is one possible answer.
pub mod Expressions
pub mod Judges
pub mod Replays
pub mod Searches
pub mod Tables
pub mod Writes
