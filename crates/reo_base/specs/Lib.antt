pub mod Adapter
pub mod Faults
pub mod Streams
pub mod SourceState
pub mod SinkState
