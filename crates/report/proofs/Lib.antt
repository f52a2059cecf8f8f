pub mod CurveLaws
pub mod NodeLaws
pub mod TurnLaws
