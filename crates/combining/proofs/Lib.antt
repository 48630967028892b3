pub mod Partners
pub mod Steps
pub mod Reading
