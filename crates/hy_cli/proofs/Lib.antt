pub mod WalkLaws
pub mod ParameterLaws
pub mod GivenLaws
pub mod ProgramLaws
