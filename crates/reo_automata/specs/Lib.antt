pub mod Links
pub mod NodeNames
pub mod Template
