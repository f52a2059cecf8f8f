pub mod Number
pub mod Text
pub mod Words
