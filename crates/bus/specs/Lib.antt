-- proofs/Theorems.antt is where to begin: what is claimed of a single call on a machine (what is claimed of lists of calls stands
-- in the scripts). `Refusal`, `Board`, `Machine`, `Time`, `Call` and `SlowRun` are the definitions, in the words of the papers, and `Cuts`
-- says how a list of calls is cut; `View` says what of the code's structs counts, and what each call promises. `Route` says
-- what a route answers, which routes a call may take, and what answer the code's reply stands for; `Private` what private
-- functions promise. What follows from the definitions stands in proofs/Laws; proofs/Examples.antt has 01's own examples, and
-- some of 02's rules.
pub mod Refusal
pub mod Board
pub mod Machine
pub mod Time
pub mod Call
pub mod SlowRun
pub mod Cuts
pub mod View
pub mod Route
pub mod Private
