-- The laws of masks and products.
pub mod BitLaws
pub mod MaskLaws
pub mod AtomLaws
pub mod ContainedLaws
pub mod ReceiveLaws
pub mod NormalLaws
pub mod AddLaws
pub mod NormaliseLaws
pub mod SendLaws
pub mod MemberLaws
pub mod Cases
