pub mod Trial
pub mod Worthless
