pub mod Network
pub mod Kind
pub mod Elements
pub mod Sample
pub mod Bound
pub mod Search
pub mod Move
pub mod Cases
