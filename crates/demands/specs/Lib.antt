pub mod Promise
pub mod Statement
pub mod MarkStatement
pub mod Instances
pub mod Applied
pub mod Edges
pub mod Starred
pub mod AppliedMarks
