pub mod RegionWeb
pub mod Laws
pub mod Growth
pub mod Table
pub mod Places
pub mod Refusal
pub mod Region
