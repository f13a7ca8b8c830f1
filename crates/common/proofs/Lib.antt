-- The laws that several crates share.
pub mod BoolLaws
pub mod ChoiceLaws
pub mod AtLaws
pub mod EachLaws
pub mod PartLaws
pub mod FrontLaws
pub mod FirstLaws
pub mod StoreLaws
pub mod StandLaws
pub mod CopyLaws
pub mod ResultLaws
