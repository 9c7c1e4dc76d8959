pub mod HasLemmas
pub mod EndLemmas
pub mod NameLemmas
pub mod ChannelLaw
pub mod NodeLaw
pub mod TemplateLaw
