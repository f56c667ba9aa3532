pub mod LineLaws
pub mod EntryLaws
pub mod ReportLaws
