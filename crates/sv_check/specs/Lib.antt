pub mod Breaks
pub mod Telling
