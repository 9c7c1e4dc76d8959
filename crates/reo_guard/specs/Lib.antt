pub mod Holds
pub mod Yields
pub mod Texts
pub mod Laws
