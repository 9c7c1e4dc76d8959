pub mod Seven
pub mod Ring
