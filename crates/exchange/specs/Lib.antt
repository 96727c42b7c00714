pub mod Orders
pub mod Answering
pub mod Back
