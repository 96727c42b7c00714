pub mod Rows
mod Mapped
mod Used
mod EndToEnd
mod Parts
mod PackedRow
mod SlotBytes
