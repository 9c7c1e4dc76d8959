pub mod PlacesLemmas
pub mod StepLaw
pub mod OnceLaw
pub mod TestLemmas
pub mod FlowLemmas
pub mod SoundLaw
pub mod CompleteLaw
pub mod PlanLaw
