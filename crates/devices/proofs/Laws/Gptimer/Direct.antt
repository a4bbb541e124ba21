-- The direct form of counts, ticks and spans is what single cycles do, and the cycles at which something is due.
pub mod Countdown
pub mod Due
pub mod Time
