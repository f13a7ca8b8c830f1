-- What the replay's local memory holds, what its words do, and what its answers mean.
pub mod QueueLaws
pub mod TurnLaws
pub mod PlayingLaws
pub mod AnswerLaws
pub mod ReplayLaws
