pub mod PlaceLemmas
pub mod CodeLemmas
pub mod FittingLemmas
pub mod WordLemmas
pub mod WriteLemmas
pub mod EngineLemmas
pub mod HistoryLemmas
pub mod ReadingLemmas
