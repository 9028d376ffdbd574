pub mod Fips
pub mod Laws
pub mod Writing
