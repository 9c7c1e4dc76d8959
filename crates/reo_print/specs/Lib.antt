pub mod Buffer
pub mod Canonical
pub mod Laws
pub mod Tokens
pub mod Trees
pub mod Sentences
pub mod Again
pub mod Front
