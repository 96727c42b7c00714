pub mod Counting
pub mod Storing
pub mod Back
pub mod Whole
pub mod Taking
pub mod Exact
