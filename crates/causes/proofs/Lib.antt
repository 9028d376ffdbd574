pub mod Theorem
pub mod Written
