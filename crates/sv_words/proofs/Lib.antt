mod Bounds
mod Kept
mod Numerals
mod Places
