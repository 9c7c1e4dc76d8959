pub mod Views
pub mod Kept
pub mod Told
pub mod Ending
pub mod Finished
pub mod KeptParty
