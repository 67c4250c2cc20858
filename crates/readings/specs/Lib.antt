pub mod Ranges
pub mod ReadingText
pub mod Readings
pub mod ReadingLaws
