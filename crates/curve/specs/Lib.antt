pub mod Answer
pub mod Kept
pub mod Text
