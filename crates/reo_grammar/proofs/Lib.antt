pub mod KeyLemmas
pub mod RunLemmas
pub mod GuardMachine
pub mod FunctionMachine
pub mod LineMachine
pub mod ReadLine
pub mod LineLaws
