pub mod OwnPorts
pub mod Posting
pub mod Collecting
