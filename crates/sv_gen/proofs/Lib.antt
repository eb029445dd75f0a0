pub mod Joins
pub mod States
pub mod Texts
