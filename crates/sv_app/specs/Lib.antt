pub mod Answer
pub mod Asked
pub mod Bench
pub mod Run
pub mod Status
