pub mod Words
pub mod ReportLines
pub mod Reports
pub mod Committed
pub mod Puts
pub mod Tallies
pub mod TableReports
