pub mod Faults
pub mod Laws
pub mod Messages
pub mod Measured
pub mod FourWords
