-- what SHA-256 is, for those who use the digest
pub use Rattle.fips.specs.Fips
pub use Rattle.fips.specs.Laws
pub mod Padding
pub mod Hashes
pub mod Results
