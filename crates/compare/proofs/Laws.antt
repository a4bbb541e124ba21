-- What follows from the definitions of specs/: a file of laws has the name of the file that it is on.
pub mod Comparison
pub mod Line
pub mod Verdict
