pub mod Numbers
pub mod Turns
pub mod Masks
pub mod States
pub mod Alike
pub mod Contents
pub mod Outlines
