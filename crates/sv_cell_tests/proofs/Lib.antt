pub mod CellsOnMap
pub mod Declared
pub mod NextElements
pub mod Taken
