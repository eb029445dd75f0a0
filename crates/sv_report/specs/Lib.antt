pub mod Pieces
pub mod Lines
pub mod Notes
pub mod Replies
pub mod Text
