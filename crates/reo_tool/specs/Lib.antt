pub mod Status
pub mod Words
pub mod FaultText
pub mod Call
