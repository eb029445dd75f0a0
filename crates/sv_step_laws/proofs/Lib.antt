pub mod Areas
pub mod Numbered
pub mod Lowered
pub mod FewListed
pub mod OnQueues
pub mod BoundedWorks
mod DeclaredCells
