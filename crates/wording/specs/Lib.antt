pub mod Expecting
pub mod Numbers
pub mod Rooms
pub mod Sizes
pub mod Told
