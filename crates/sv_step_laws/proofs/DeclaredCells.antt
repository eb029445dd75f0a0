-- What lies inside the resources of a trace touches cells that it declares.
use Rattle.std.proofs.Common.{ℕ, ◌≡◌, ◌<◌, ◌+◌, true, IsTrue, List, Option, Some, None, arith}
use Rattle.std.proofs.Common.{subst, Contains}
use Rattle.std.proofs.lemmas.Bool.Decides.{nat_tests}
use Rattle.std.specs.Prelude.{◌&&◌, ◌==◌, nat_le, nat_lt}
use Rattle.std.specs.List.{All, flat_map}
use Rattle.std.proofs.lemmas.Bool.{and_parts, eqb-true}
use Rattle.std.proofs.lemmas.List.Elements.{All-contains}
use Rattle.sv_model.specs.declared.line.Trace.{Trace}
use Rattle.sv_model.specs.declared.work.Access.{Access}
use Rattle.sv_model.specs.declared.work.Area.{Area}
use Rattle.sv_model.specs.declared.work.Area.TheVariants.{Bytes, Image}
use Rattle.sv_model.specs.declared.work.Cell.{Cell}
use Rattle.sv_model.specs.declared.work.Cell.TheVariants.{Byte, Texel}
use Rattle.sv_model.specs.declared.work.Group.{Group}
use Rattle.sv_model.specs.declared.work.Step.{Step}
use Rattle.sv_model.specs.declared.work.Step.TheVariants.{Accesses, Groups, SetEvent, WaitEvent, ResetEvent}
use Rattle.sv_model.specs.Cells.{HasCell, IsCell, area_resource, cell_resource, covers, is_inside}
use Rattle.sv_model.specs.Declarations.{Resource, BufferOf, ImageOf, resource_of}
use Rattle.sv_model.specs.Reports.{Spot, IsReportedFrom, accesses_of}
use Rattle.sv_model.proofs.Lists.{in_filter, in_flat_map}
use Rattle.sv_space.specs.Areas.{IsAreaOf, IsIn}
use Rattle.sv_step_laws.specs.Steps.{IsAccessOf, IsGroupOf, IsStepOf}

below : (n m : ℕ) → nat_lt n m ≡ true → n < m
below n m t = grind (arith, nat_tests)

-- an area inside a resource has cells of it alone
has_cell : (o : Option Resource) (area : Area) (cell : Cell) → IsIn o area → IsTrue (covers area cell)
    → HasCell o cell
has_cell (Some (BufferOf size)) (Bytes res span) (Byte r at) inside on =
    let p = and_parts (res == r) (nat_le span.start at && nat_lt at span.end) on in
    let q = and_parts (nat_le span.start at) (nat_lt at span.end) p.1 in
    let l = below at span.end q.1 in
    let e = inside.1 in omega (arith, l, e)
has_cell (Some (ImageOf mips layers)) (Image res box) (Texel r mip layer) inside on =
    let p = and_parts (res == r) (is_inside box mip layer) on in
    let q = and_parts (nat_le box.mip mip && nat_lt mip (box.mip + box.mips))
    (nat_le box.layer layer && nat_lt layer (box.layer + box.layers)) p.1 in
    let m = below mip (box.mip + box.mips) (and_parts (nat_le box.mip mip)
    (nat_lt mip (box.mip + box.mips)) q.0).1 in
    let l = below layer (box.layer + box.layers) (and_parts (nat_le box.layer layer)
    (nat_lt layer (box.layer + box.layers)) q.1).1 in
    let some = inside.1 in
    let last = inside.3 in (omega (arith, m, some), omega (arith, l, last))
has_cell (Some (BufferOf size)) (Bytes res span) (Texel r mip layer) inside on = absurd (let no = on in cc)
has_cell (Some (ImageOf mips layers)) (Image res box) (Byte r at) inside on = absurd (let no = on in cc)
has_cell (Some (BufferOf size)) (Image res box) cell inside on = absurd inside
has_cell (Some (ImageOf mips layers)) (Bytes res span) cell inside on = absurd inside
has_cell None area cell inside on = absurd inside

same_resource : (area : Area) (cell : Cell) → IsTrue (covers area cell)
    → area_resource area ≡ cell_resource cell
same_resource (Bytes res span) (Byte r at) on =
    eqb-true res r (and_parts (res == r) (nat_le span.start at && nat_lt at span.end) on).0
same_resource (Image res box) (Texel r mip layer) on =
    eqb-true res r (and_parts (res == r) (is_inside box mip layer) on).0
same_resource (Bytes res span) (Texel r mip layer) on = absurd (let no = on in cc)
same_resource (Image res box) (Byte r at) on = absurd (let no = on in cc)

covered_is_declared : (t : Trace) (area : Area) (cell : Cell) → IsAreaOf t area → IsTrue (covers area cell)
    → IsCell t cell
covered_is_declared t area cell of on = subst (λ (res : ℕ). HasCell (resource_of t res) cell)
    (same_resource area cell on) (has_cell (resource_of t (area_resource area)) area cell of on)

access_is : (t : Trace) (s : Step) (a : Access) → IsStepOf t s → Contains (accesses_of s) a → IsAccessOf t a
access_is t (Accesses list) a of on = All-contains (IsAccessOf t) list a of on
access_is t (Groups list) a of on =
    let g = in_flat_map (λ (g : Group). g.transitions) list a on in
    let is = All-contains (IsGroupOf t) list g.0 of g.1 in
    All-contains (IsAccessOf t) g.0.transitions a is.transitions g.2
access_is t (SetEvent event place list) a of on = absurd (let h = on.1 in omega (arith, h))
access_is t (WaitEvent event place) a of on = absurd (let h = on.1 in omega (arith, h))
access_is t (ResetEvent event place) a of on = absurd (let h = on.1 in omega (arith, h))

pub reported_is_declared : (t : Trace) (steps : List Step) (s : Spot) → All (IsStepOf t) steps
    → IsReportedFrom 0 steps s → IsCell t s.cell
reported_is_declared t steps s of is =
    let on = in_filter (λ (a : Access). covers a.area s.cell) (flat_map accesses_of steps) s.later
    is.reported.listed in
    let step = in_flat_map accesses_of steps s.later on.0 in
    let access = access_is t step.0 s.later (All-contains (IsStepOf t) steps step.0 of step.1) step.2 in
    covered_is_declared t s.later.area s.cell access.area on.1
