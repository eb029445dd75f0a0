pub mod TableLemmas
pub mod MaskNames
