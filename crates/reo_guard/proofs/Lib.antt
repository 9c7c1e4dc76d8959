pub mod FrontLemmas
pub mod YieldsLemmas
pub mod HoldsLemmas
