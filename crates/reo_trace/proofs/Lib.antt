pub mod BufferLemmas
pub mod DigitLemmas
pub mod EscapeLemmas
pub mod PlaceLemmas
pub mod ListLemmas
pub mod PartLemmas
pub mod ReportLemmas
pub mod RoomLemmas
