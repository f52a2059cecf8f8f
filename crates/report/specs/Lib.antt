pub mod Curve
pub mod Fields
pub mod Nodes
pub mod Parts
