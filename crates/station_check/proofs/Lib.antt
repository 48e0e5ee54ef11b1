pub mod ReportGrows
