pub mod Kinds
pub mod Uses
pub mod Throughout
