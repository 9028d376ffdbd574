pub mod Marking
pub mod MarkResults
pub mod Standing
pub mod MarkLaws
pub mod Counts
pub mod Edges
