pub mod Key
pub mod Token
pub mod Guards
pub mod Functions
pub mod Lines
pub mod Wrong
pub mod Laws
pub mod Machine
