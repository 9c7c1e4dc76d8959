pub mod Board
pub mod Offers
pub mod Calls
pub mod Turn
pub mod Plain
pub mod Values
pub mod UnderWay
pub mod Laws
