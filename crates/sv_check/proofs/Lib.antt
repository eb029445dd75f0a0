pub mod FirstUses
pub mod LineByLine
