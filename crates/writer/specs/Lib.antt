-- What the list writer answers and leaves: read the files in this order.
pub mod Words
pub mod Fitting
pub mod Placing
pub mod Writing
pub mod Answers
