-- Where the recordings of a trace stand.
pub mod Indexes
pub mod Places
