pub mod Advance
pub mod Board
pub mod Bound
pub mod Index
pub mod Nets
pub mod Places
pub mod Shift
