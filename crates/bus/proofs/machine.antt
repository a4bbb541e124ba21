pub mod Ports
pub mod Carrying
pub mod Setting
