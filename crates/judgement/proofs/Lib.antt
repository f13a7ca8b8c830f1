-- What the judge's answer means.
pub mod SettledLaws
pub mod ExactLaws
pub mod SoundLaws
pub mod InvariantLaws
pub mod Examples
