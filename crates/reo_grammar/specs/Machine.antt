-- A machine that takes a line token by token, and so knows the first one with which no line goes on.
pub mod Run
pub mod Guards
pub mod Functions
pub mod Lines
