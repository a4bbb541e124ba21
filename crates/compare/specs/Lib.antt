-- proofs/Theorems.antt is where to begin: what is claimed of comparing. `Verdict` and `Line` are the definitions, in the words of the
-- request; `Comparison` says how two logs are compared piece by piece, and `Pieces` what is given of them and in which order.
-- `Private` has what private functions promise. What follows from the definitions stands in proofs/Laws.
pub mod Verdict
pub mod Line
pub mod Comparison
pub mod Pieces
pub mod Private
