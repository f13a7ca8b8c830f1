-- What the record reader's functions answer.
pub mod Bytes
pub mod Records
pub mod Walks
