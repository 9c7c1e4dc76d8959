pub mod Buffer
pub mod Counts
pub mod Outline
pub mod Texts
