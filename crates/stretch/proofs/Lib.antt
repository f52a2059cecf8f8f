pub mod CurveLaws
pub mod DrawingLaws
pub mod Halving
pub mod Once
pub mod StretchLaws
