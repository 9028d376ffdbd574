pub mod Moves
pub mod Areas
