pub mod Accepted
pub mod Asked
pub mod Image
pub mod Reached
pub mod Writes
