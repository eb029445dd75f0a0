pub mod Seats
pub mod Steps
pub mod Counting
pub mod Pushing
pub mod Keeping
pub mod Items
pub mod Finishing
