pub mod Shared
pub mod History
pub mod Plays
pub mod Words
pub mod Seat
pub mod Closing
