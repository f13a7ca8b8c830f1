-- The channels' contents as local memory holds them.
pub mod Contents
