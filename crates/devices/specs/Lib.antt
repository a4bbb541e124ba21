-- What the contracts of this crate cite. `Word`, `Refusal`, `Register`, `Apbuart`, `Gptimer` and `Irqmp` are the definitions,
-- in the words of the papers; `Fifo` and `Apbuart.View` say what of the code's structs counts, `Apbuart.Call` and
-- `Gptimer.Span` what a call means that is given as a value of an enum, and `Gptimer.Span` what the unit tells of a span
-- beforehand; `Gptimer.Direct` is the arithmetic by which the timer unit's code passes time, and `Irqmp.Words` the words in
-- which the controller's code finds lines. What follows from the definitions stands in proofs/Laws.
pub mod Word
pub mod Refusal
pub mod Register
pub mod Answer
pub mod Apbuart
pub mod Fifo
pub mod Gptimer
pub mod Irqmp
