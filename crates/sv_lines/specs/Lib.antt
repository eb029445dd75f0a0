pub mod Extents
pub mod Tables
pub mod PassLines
pub mod Sound
pub mod KnownParts
pub mod Measures
pub mod Following
