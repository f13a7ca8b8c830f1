-- What the replay answers: Replaying has the answer, Runs the runs that run words tell; Queues and Turns have what inner functions do to memory.
pub mod Queues
pub mod Turns
pub mod Replaying
pub mod Runs
