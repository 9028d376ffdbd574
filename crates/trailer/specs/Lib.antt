pub mod Trailer
pub mod MarkOrder
pub mod BytesFrom
