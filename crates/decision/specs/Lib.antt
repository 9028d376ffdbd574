pub mod FollowLaws
pub mod AreaLaws
pub mod StateLaws
pub mod CourseLaws
