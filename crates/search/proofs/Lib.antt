-- The laws of the search.
pub mod StandingLaws
pub mod FrontLaws
pub mod VisitLaws
pub mod PassLaws
pub mod RunLaws
pub mod SearchLaws
pub mod FindingLaws
