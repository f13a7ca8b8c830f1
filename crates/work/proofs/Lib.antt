-- The laws of rows in lent words.
pub mod LayoutLaws
pub mod RoomLaws
pub mod WritingLaws
pub mod AppendLaws
