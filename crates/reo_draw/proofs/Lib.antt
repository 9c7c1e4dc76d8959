pub mod DrawLaw
