pub mod Held
pub mod Onward
pub mod WholeReplies
