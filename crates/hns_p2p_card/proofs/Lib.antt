pub mod Widths
pub mod Indexes
pub mod Spans
pub mod Card
