pub mod MarkLaws
pub mod ScenarioLaws
pub mod ReportLaws
