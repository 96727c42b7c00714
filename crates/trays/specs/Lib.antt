pub mod Rows
pub mod Limit
pub mod Packed
pub mod SlotBytes
