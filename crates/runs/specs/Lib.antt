pub mod Answers
pub mod Steps
pub mod Held
pub mod Histories
pub mod Kinds
pub mod Law
pub mod Throughout
pub mod Sound
