-- What the functions of a move's outcome, and of the look for a row that contains it, answer and leave.
pub mod Outcomes
pub mod Look
