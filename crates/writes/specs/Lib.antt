pub mod Steps
pub mod InArea
