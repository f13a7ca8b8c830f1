-- What a reader must believe: read the files in this order. Nothing is assumed anywhere; these are definitions.
pub mod Words
pub mod Systems
pub mod Products
pub mod Rows
pub mod Outcomes
