pub mod Edges
pub mod MarkLaws
