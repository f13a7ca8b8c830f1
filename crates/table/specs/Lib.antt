-- What a table's bytes mean: read the files in this order. Models are chains of choices in the order of the code's tests.
pub mod Fields
pub mod Checking
pub mod Answers
pub mod Transitions
pub mod Listing
pub mod Systems
