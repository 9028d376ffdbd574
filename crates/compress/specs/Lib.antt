pub mod Grown
pub mod Variables
pub mod TurnLaws
pub mod Turns
