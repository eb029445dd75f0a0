-- The resources that a trace declares, and their lines.
use Rattle.std.specs.Prelude.{◌≡◌, ◌<◌, ◌≤◌, ◌+◌, ◌*◌, List, Contains}
use Rattle.sv_model.specs.declared.line.Line.{Line as Declared}
use Rattle.sv_model.specs.declared.line.Line.TheVariants as declared
use Rattle.sv_model.specs.declared.work.Area.{Area}
use Rattle.sv_model.specs.declared.work.Area.TheVariants.{Bytes, Image}
use Rattle.sv_space.specs.declared.line.Line.{Line}
use Rattle.sv_space.specs.declared.shape.Shape.TheVariants as shape

-- the line is of the resource that this line of a trace declares
abbrev pub IsLineFor : Declared → Line → Type 0
IsLineFor (declared.Buffer res size sharing) l = (l.res ≡ res) × (l.shape ≡ shape.Bytes)
    × (l.pieces.size ≡ size)
IsLineFor (declared.Image res mips layers initial sharing) l = (l.res ≡ res)
    × (l.shape ≡ shape.Mips mips layers) × (l.pieces.size ≡ mips * layers)
IsLineFor other l = ⊥

abbrev pub HasLineFor : List Line → Declared → Type 0
HasLineFor lines d = (l : Line) × Contains lines l × IsLineFor d l

-- the area is of cells of the resource that this line of a trace declares
abbrev pub IsInsideOf : Declared → Area → Type 0
IsInsideOf (declared.Buffer res size sharing) (Bytes r span) = (res ≡ r) × (span.start < span.end)
    × (span.end ≤ size)
IsInsideOf (declared.Image res mips layers initial sharing) (Image r box) = (res ≡ r) × (0 < box.mips)
    × (box.mip + box.mips ≤ mips) × (0 < box.layers) × (box.layer + box.layers ≤ layers)
IsInsideOf d area = ⊥
