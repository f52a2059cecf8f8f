pub mod Counts
pub mod DrawnLaws
pub mod Promise
pub mod Widths
pub mod Means
