pub mod OnTheWay
pub mod HostWaits
pub mod TakenItems
pub mod TakingIn
pub mod Lacking
pub mod Kept
pub mod KeptFew
pub mod FewPieces
