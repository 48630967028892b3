pub mod Partners
pub mod Steps
