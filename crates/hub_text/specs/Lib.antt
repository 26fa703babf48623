pub mod Quoting
pub mod CallText
pub mod ReplyText
pub mod ReportText
pub mod ErrorLines
pub mod ReportExamples
