pub mod Places
pub mod Step
pub mod Allows
pub mod Tests
pub mod Flow
pub mod Laws
