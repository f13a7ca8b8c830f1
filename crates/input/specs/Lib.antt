-- What reading comes to.
pub mod Reading
