-- Words for what is inside the types, which only this crate's own functions cite.
pub mod Spare
pub mod Writes
pub mod Whole
pub mod Readings
pub mod Counts
