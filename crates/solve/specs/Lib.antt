pub mod Answer
pub mod Climb
pub mod Leap
pub mod Sample
pub mod Search
pub mod Visit
