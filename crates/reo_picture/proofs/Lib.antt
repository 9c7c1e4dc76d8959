pub mod AddsLemmas
pub mod QuoteLemmas
pub mod LineLemmas
