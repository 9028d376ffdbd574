pub mod Numbers
pub mod Edges
