-- What follows from the definitions of specs/: a file of laws has the name of the file that it is on.
pub mod Board
pub mod Call
pub mod Cuts
pub mod Route
pub mod SlowRun
pub mod Time
