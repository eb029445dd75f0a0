pub mod Inside
pub mod Taken
