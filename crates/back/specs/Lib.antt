-- What going back over one move leaves in local memory.
pub mod Needs
