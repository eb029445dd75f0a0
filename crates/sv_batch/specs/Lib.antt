-- What runs in a batch.
pub mod Running
pub mod Begun
