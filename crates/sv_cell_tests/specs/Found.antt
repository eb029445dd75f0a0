-- Cells that are found in a trace, by their numbers.
use Rattle.std.specs.Prelude.{ℕ, Option, Some, None}
use Rattle.sv_model.specs.Declarations.{BufferOf, ImageOf, Resource, resource_of}
use Rattle.sv_model.specs.declared.line.Trace.{Trace}
use Rattle.sv_cellmap.specs.CellNumbers.{HasNumber}

-- it is a resource that has a cell with this number
abbrev pub IsResourceCellOf : Option Resource → ℕ → Type 0
IsResourceCellOf None number = ⊥
IsResourceCellOf (Some resource) number = HasNumber resource number

abbrev pub IsImageCellOf : Option Resource → ℕ → Type 0
IsImageCellOf None number = ⊥
IsImageCellOf (Some (BufferOf size)) number = ⊥
IsImageCellOf (Some (ImageOf mips layers)) number = HasNumber (ImageOf mips layers) number

abbrev pub IsResourceCell : Trace → ℕ → ℕ → Type 0
IsResourceCell t res number = IsResourceCellOf (resource_of t res) number

abbrev pub IsImageCell : Trace → ℕ → ℕ → Type 0
IsImageCell t res number = IsImageCellOf (resource_of t res) number
