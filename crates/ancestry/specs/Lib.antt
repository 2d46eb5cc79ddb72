pub mod Known
pub mod KnownLaws
pub mod Links
pub mod Parents
