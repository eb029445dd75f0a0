pub mod Ops
pub mod Lines
pub mod Text
pub mod Reading
pub mod Formed
