-- proofs/Theorems.antt is where to begin: what is claimed of the model. `Refusal`, `Number`, `Buffer`, `Text`, `Format`, `Script`, `Log`,
-- `Run` and `Program` are the definitions, in the words of the papers; `Pieces` says how a script and the program's input are cut,
-- `Steps` what is done one after the other and what is seen of it; `View` says what of the code's types counts, and what each
-- run promises. `Private` has what private functions promise. What follows from the definitions stands in
-- proofs/Laws.
pub mod Refusal
pub mod Number
pub mod Buffer
pub mod Text
pub mod Format
pub mod Script
pub mod Log
pub mod Pieces
pub mod Steps
pub mod Run
pub mod Program
pub mod View
pub mod Private
