pub mod Block
pub mod Call
pub mod Cut
pub mod Drives
pub mod Host
pub mod Playing
