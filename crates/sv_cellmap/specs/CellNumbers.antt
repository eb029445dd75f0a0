-- The cells of a resource by their numbers: the byte of a buffer, and `mip * layers + layer` of an image.
use Rattle.std.specs.Prelude.{ℕ, ◌≡◌, ◌==◌, ◌<◌, ◌*◌, ◌/◌, ◌%◌, Option, Some, None, List, ◌∷◌}
use Rattle.std.specs.Prelude.{if◌then◌else◌, slice_get, unwrap_or}
use Rattle.sv_model.specs.Declarations.{BufferOf, ImageOf, Resource, said, says_resource}
use Rattle.sv_model.specs.declared.line.Line.{Line}
use Rattle.sv_model.specs.declared.work.Cell.{Cell}
use Rattle.sv_model.specs.declared.work.Cell.TheVariants.{Byte, Texel}

-- how many layers an image has; a buffer has none
abbrev pub layers_of : Option Resource → ℕ
layers_of (Some (ImageOf mips layers)) = layers
layers_of (Some (BufferOf size)) = 0
layers_of None = 0

abbrev pub layers_in : List Line → ℕ → ℕ
layers_in lines res = layers_of (said (says_resource res) lines)

-- the cell with this number, of an image with so many layers or of a buffer
abbrev pub cell_numbered : ℕ → ℕ → ℕ → Cell
cell_numbered layers res number = if layers == 0 then Byte res number else Texel res (number / layers)
    (number % layers)

-- the resource has a cell with this number
abbrev pub HasNumber : Resource → ℕ → Type 0
HasNumber (BufferOf size) number = number < size
HasNumber (ImageOf mips layers) number = number < mips * layers

-- the table has the layers of each resource that the lines declare, of which the first counts
abbrev pub HaveLayers : List ℕ → List Line → Type 0
HaveLayers table lines = (res : ℕ) → unwrap_or (slice_get table res) 0 ≡ layers_in lines res

-- a table for some lines is one for them behind this one
abbrev pub AddsLayers : List ℕ → List ℕ → Line → Type 0
AddsLayers old new x = (rest : List Line) → HaveLayers old rest → HaveLayers new (x ∷ rest)
