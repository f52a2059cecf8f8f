pub mod NumberLaws
pub mod PlaceLaws
