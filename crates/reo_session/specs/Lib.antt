pub mod Prepared
pub mod Posted
pub mod Turn
pub mod Plan
pub mod Running
pub mod Session
pub mod Watch
pub mod Text
