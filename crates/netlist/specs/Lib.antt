pub mod Line
pub mod Curve
pub mod Draft
pub mod Kept
pub mod Text
pub mod Answer
