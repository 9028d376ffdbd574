pub mod LayoutLaws
pub mod DigestLaws
