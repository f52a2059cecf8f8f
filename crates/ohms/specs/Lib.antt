pub mod Found
pub mod Grammar
pub mod Worth
