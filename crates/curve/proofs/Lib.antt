pub mod KeptLaws
pub mod TextLaws
