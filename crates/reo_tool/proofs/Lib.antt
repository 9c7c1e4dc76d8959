pub mod WordLemmas
pub mod RefusalLaw
pub mod CallLaw
