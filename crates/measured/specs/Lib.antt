pub mod Measured
pub mod Through
