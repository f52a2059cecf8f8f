pub mod BoardIs
pub mod LaidIs
pub mod TableIs
