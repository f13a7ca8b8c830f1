-- What the cautious functions answer and leave.
pub mod Judged
pub mod Replayed
