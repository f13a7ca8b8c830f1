-- What the judge's functions answer and leave.
pub mod Look
pub mod Memory
pub mod Outcomes
pub mod Repeats
pub mod States
pub mod Moves
pub mod Judging
