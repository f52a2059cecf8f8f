pub mod Answer
pub mod Named
pub mod Netlist
