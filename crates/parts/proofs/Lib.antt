pub mod AnswerLaws
pub mod NamedLaws
pub mod Promise
