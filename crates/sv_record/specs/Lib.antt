pub mod Contexts
pub mod Indexed
pub mod Places
