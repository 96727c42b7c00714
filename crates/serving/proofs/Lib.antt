pub mod Joining
pub mod Replied
pub mod Turns
