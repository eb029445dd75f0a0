pub mod FirstPlaces
pub mod Next
pub mod Pushed
pub mod Scopes
pub mod Starting
