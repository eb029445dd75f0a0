-- The areas of the resources of a trace.
use Rattle.std.specs.Prelude.{◌+◌, ◌<◌, ◌≤◌, Option, Some, None}
use Rattle.sv_model.specs.Cells.{area_resource}
use Rattle.sv_model.specs.Declarations.{Resource, BufferOf, ImageOf, resource_of}
use Rattle.sv_model.specs.declared.line.Trace.{Trace}
use Rattle.sv_model.specs.declared.work.Area.{Area}
use Rattle.sv_model.specs.declared.work.Area.TheVariants.{Bytes, Image}

-- the area is of cells of the resource, of which there are some
abbrev pub IsIn : Option Resource → Area → Type 0
IsIn (Some (BufferOf size)) (Bytes res span) = (span.start < span.end) × (span.end ≤ size)
IsIn (Some (ImageOf mips layers)) (Image res box) = (0 < box.mips) × (box.mip + box.mips ≤ mips)
    × (0 < box.layers) × (box.layer + box.layers ≤ layers)
IsIn (Some (BufferOf size)) (Image res box) = ⊥
IsIn (Some (ImageOf mips layers)) (Bytes res span) = ⊥
IsIn None area = ⊥

-- the area is of cells of a declared resource
abbrev pub IsAreaOf : Trace → Area → Type 0
IsAreaOf t area = IsIn (resource_of t (area_resource area)) area
