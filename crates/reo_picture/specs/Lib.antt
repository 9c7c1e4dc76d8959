pub mod Buffer
pub mod Picture
pub mod Laws
