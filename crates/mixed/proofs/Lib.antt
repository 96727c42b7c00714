pub mod Onward
pub mod Sends
pub mod Led
pub mod Settles
