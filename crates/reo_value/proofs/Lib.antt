mod IndexLemmas
pub mod LexiconLemmas
