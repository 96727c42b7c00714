pub mod Layouts
pub mod Frames
pub mod Replies
pub mod Laws
