pub mod ChainLaws
pub mod Examples
pub mod FactorLaws
pub mod FoundLaws
pub mod Promise
mod ReadyLaws
pub mod WithinLaws
