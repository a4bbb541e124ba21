-- What follows from the definitions of specs/: a file of laws has the name of the file that it is on.
pub mod Buffer
pub mod Format
pub mod Log
pub mod Number
pub mod Program
pub mod Run
pub mod Script
pub mod Steps
pub mod Text
pub mod View
