pub mod LabelLemmas
pub mod RelabelLaw
pub mod ParentLemmas
pub mod PairLemmas
pub mod CountLemmas
pub mod CutLaw
pub mod ExistLaw
