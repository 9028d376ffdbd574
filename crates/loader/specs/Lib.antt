pub mod PowerUp
pub mod Results
pub mod Edges
