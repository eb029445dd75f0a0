pub mod Ways
pub mod Queued
