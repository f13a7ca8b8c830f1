-- What the search's functions answer and leave.
pub mod Standing
pub mod Visits
pub mod Runs
pub mod Searching
