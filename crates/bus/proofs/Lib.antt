pub mod Loops
pub mod Laws
pub mod Examples
pub mod Theorems
