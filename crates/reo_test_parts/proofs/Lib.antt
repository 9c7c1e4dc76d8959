pub mod SevenLemmas
pub mod RingLemmas
