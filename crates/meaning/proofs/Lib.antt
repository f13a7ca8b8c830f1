-- The laws of the definitions. Each is proved once, over any word, product, row or system.
pub mod WordLaws
pub mod PutLaws
pub mod ProductLaws
pub mod HeadLaws
pub mod ContainmentLaws
pub mod SendLaws
pub mod RunLaws
pub mod LossLaws
pub mod RowLaws
pub mod OutcomeLaws
pub mod DirectedLaws
pub mod Examples
