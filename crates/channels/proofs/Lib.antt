-- The laws of contents in local memory.
pub mod ContentsLaws
