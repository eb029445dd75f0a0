-- The parts of resources that a line names.
use Rattle.std.specs.Prelude.{ℕ, ◌+◌, Bool, true, false, ◌||◌, ◌==◌, nat_lt, nat_le, Option, Some, None}
use Rattle.std.specs.List.{list_any}
use Rattle.sv_model.specs.declared.line.Line.{Line}
use Rattle.sv_model.specs.declared.line.Line.TheVariants as line
use Rattle.sv_model.specs.declared.line.Part.{Part}
use Rattle.sv_model.specs.declared.line.Part.TheVariants as part
use Rattle.sv_model.specs.declared.line.Declared.{Declared}
use Rattle.sv_model.specs.declared.line.Target.{Target}
use Rattle.sv_model.specs.declared.line.Element.{Element}
use Rattle.sv_model.specs.declared.line.Attachment.{Attachment}
use Rattle.sv_model.specs.declared.line.View.{View}
use Rattle.sv_model.specs.declared.line.Trace.{Trace}
use Rattle.sv_model.specs.Declarations.{Resource, BufferOf, ImageOf}
use Rattle.sv_rules.specs.Taken.{resource_in}

-- Whether a part of the line, on its resource, passes a test. An attachment and a view have one mip.

abbrev pub access_part : (ℕ → Part → Bool) → Declared → Bool
access_part test a = test a.res a.part

abbrev pub target_part : (ℕ → Part → Bool) → Target → Bool
target_part test x = test x.res x.part

-- an element without a resource passes no test
abbrev pub if_target : (Target → Bool) → Option Target → Bool
if_target test None = false
if_target test (Some x) = test x

abbrev pub element_part : (ℕ → Part → Bool) → Element → Bool
element_part test e = if_target (target_part test) e.target

abbrev pub attachment_part : (ℕ → Part → Bool) → Attachment → Bool
attachment_part test a = test a.res (part.Image a.mip 1 a.layer a.layers)

abbrev pub view_part : (ℕ → Part → Bool) → View → Bool
view_part test v = test v.res (part.Image v.mip 1 v.layer v.layers)

abbrev pub some_part : (ℕ → Part → Bool) → Line → Bool
some_part test (line.Work rec accesses) = list_any (access_part test) accesses
some_part test (line.Barrier rec deps) = list_any (element_part test) deps
some_part test (line.SetEvent rec event deps) = list_any (element_part test) deps
some_part test (line.BeginRendering rec attachments) = list_any (attachment_part test) attachments
some_part test (line.BeginPass rec pass views) = list_any (view_part test) views
some_part test other = false

-- the part has the form of the other kind of resource, or goes on past the resource's end
abbrev pub is_outside : Option Resource → Part → Bool
is_outside (Some (BufferOf size)) (part.Bytes start end) = nat_lt size end
is_outside (Some (ImageOf mips layers)) (part.Image mip m layer l) = nat_lt mips (mip + m)
    || nat_lt layers (layer + l)
is_outside (Some (BufferOf size)) (part.Image mip m layer l) = true
is_outside (Some (ImageOf mips layers)) (part.Bytes start end) = true
is_outside None part = false

-- the start is not below the end, or there are no mips or no layers
abbrev pub is_without_cells : Part → Bool
is_without_cells (part.Bytes start end) = nat_le end start
is_without_cells (part.Image mip mips layer layers) = mips == 0 || layers == 0

abbrev pub goes_outside : Trace → ℕ → Part → Bool
goes_outside t res part = is_outside (resource_in t res) part

abbrev pub has_no_cells : ℕ → Part → Bool
has_no_cells res part = is_without_cells part

-- A part has the form of the other kind of resource, or is not inside its resource.
unfoldable pub is_out_of_resource : Trace → Line → Bool
is_out_of_resource t line = some_part (goes_outside t) line

-- A part has no cells.
unfoldable pub is_empty : Line → Bool
is_empty line = some_part has_no_cells line
