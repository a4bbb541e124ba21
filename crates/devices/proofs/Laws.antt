-- What follows from the definitions of specs/. `Apbuart`, `Gptimer` and `Irqmp` are theorems for readers and for the layers above
-- (`Irqmp.Order`: which line is taken); `Word`, `Register`, `Gptimer.Pulses`, `Cases` and `Lists` what those and the proofs rest on;
-- `Gptimer.Direct` that the arithmetic by which the timer unit's code passes time is what single cycles do; `Irqmp.Words` that the
-- words in which the controller's code finds lines are the definitions' lines; `Gptimer.FromReset` two spans that are too long to be
-- done cycle by cycle.
pub mod Apbuart
pub mod Cases
pub mod Gptimer
pub mod Irqmp
pub mod Lists
pub mod Register
pub mod Word
