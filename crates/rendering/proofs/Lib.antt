pub mod Examples
pub mod OneOutcome
pub mod RenderingLaws
