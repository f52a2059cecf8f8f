pub mod Bytes
pub mod Float
pub mod Integer
pub mod Number
pub mod Ratio
pub mod Table
pub mod Voltage
