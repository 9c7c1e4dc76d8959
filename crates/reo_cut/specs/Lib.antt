pub mod Labels
pub mod Parents
pub mod Cut
pub mod Numbers
