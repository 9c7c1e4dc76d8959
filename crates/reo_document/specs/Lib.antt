pub mod Document
pub mod Lines
pub mod Placed
pub mod Spells
pub mod Laws
pub mod Builder
pub mod Reading
pub mod Plain
