-- Actors, what their device keeps, and its index.
pub mod Actors
pub mod Devices
pub mod Indexed
