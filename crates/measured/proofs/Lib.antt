pub mod DrawingLaws
pub mod Examples
pub mod Limits
pub mod PairLaws
pub mod Promise
pub mod Through
