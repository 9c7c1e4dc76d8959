pub mod Code
pub mod Lexicon
pub mod Num
pub mod Op
