pub mod MagicLaws
pub mod ReadLaws
pub mod PlaceLaws
pub mod RunLaws
pub mod Parts
