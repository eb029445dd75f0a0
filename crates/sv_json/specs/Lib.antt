pub mod Flaw
pub mod Form
