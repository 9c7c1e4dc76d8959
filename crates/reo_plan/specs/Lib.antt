pub mod Fabric
pub mod Plan
pub mod Laws
pub mod inside
