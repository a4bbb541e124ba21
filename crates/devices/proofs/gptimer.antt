pub mod Countdown
pub mod Counting
pub mod Spans
