pub mod NumberLaws
pub mod TextLaws
pub mod WordLaws
