-- The parts agree.
pub mod SafeLaws
pub mod CallLaws
pub mod JudgedLaws
