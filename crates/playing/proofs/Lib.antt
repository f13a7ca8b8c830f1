-- What played words mean.
pub mod PlayLaws
