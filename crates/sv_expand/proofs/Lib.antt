pub mod BitLemmas
pub mod RowLemmas
pub mod StageScopes
pub mod AccessScopes
