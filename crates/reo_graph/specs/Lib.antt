pub mod Paths
pub mod Closure
pub mod Edges
pub mod Laws
