pub mod EraseLaws
pub mod UnitLaws
pub mod FrontLaws
