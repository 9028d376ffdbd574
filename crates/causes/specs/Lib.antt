pub mod Header
pub mod Check
pub mod Image
pub mod Edges
pub mod LaidLaws
pub mod CheckLaws
pub mod StructureLaws
pub mod Written
