-- What a step that fits may do, and the areas of the resources of a lawful trace.
use Rattle.std.proofs.Common.{ℕ, ◌≡◌, ◌≤◌, Bool, true, false, List, [], ◌∷◌, Contains, Option, Some, None}
use Rattle.std.proofs.Common.{arith, length, refl, sym, ◌∙◌, subst}
use Rattle.std.specs.Prelude.{slice_get, ◌==◌, if◌then◌else◌}
use Rattle.std.specs.List.{cons_option, filter_map}
use Rattle.std.proofs.lemmas.Bool.{eqb-true}
use Rattle.std.proofs.lemmas.List.Elements.{All-contains}
use Rattle.sv_model.specs.Cells.{area_resource}
use Rattle.sv_model.specs.Declarations.{Resource, BufferOf, ImageOf, said, says_resource, resource_of}
use Rattle.sv_model.specs.Reports.{accesses_of, groups_of}
use Rattle.sv_model.specs.declared.line.Line.{Line as Declared}
use Rattle.sv_model.specs.declared.line.Line.TheVariants as declared
use Rattle.sv_model.specs.declared.line.Trace.{Trace}
use Rattle.sv_model.specs.declared.work.Area.{Area}
use Rattle.sv_model.specs.declared.work.Area.TheVariants.{Bytes, Image}
use Rattle.sv_model.specs.declared.work.Group.{Group}
use Rattle.sv_model.specs.declared.work.Step.{Step}
use Rattle.sv_model.specs.declared.work.Step.TheVariants.{Accesses, Groups, SetEvent, WaitEvent, ResetEvent}
use Rattle.sv_model.proofs.Lists.{in_cons, in_first, in_flat_map}
use Rattle.sv_space.specs.AllLines.{IsRangeOf, LieIn, LiesIn}
use Rattle.sv_space.specs.Areas.{IsIn}
use Rattle.sv_space.specs.Own.{HoldTransitions}
use Rattle.sv_space.specs.Resources.{IsInsideOf}
use Rattle.sv_space.specs.Space.{AccessFits, AreasFit, DepFits, Fits, GroupFits, HasArea, HasResources}
use Rattle.sv_space.specs.Space.{IsTouch, KeepsAreas, MayTouch, RangeFits}
use Rattle.sv_space.specs.declared.space.Space.{Space}

-- The areas of a space are those that lie in its lines.

pub area_lies : (space : Space) (area : Area) → HasArea space area → LiesIn space.lines.items area
unfolding HasArea
area_lies space area has = has

pub has_area : (space : Space) (area : Area) → LiesIn space.lines.items area → HasArea space area
unfolding HasArea
has_area space area lies = lies

pub keeps_areas : (old new : Space) → ((area : Area) → LiesIn old.lines.items area
    → LiesIn new.lines.items area) → length new.lines.items ≡ length old.lines.items → KeepsAreas old new
keeps_areas old new kept long = record {
  areas = λ area has. has_area new area (kept area (area_lies old area has));
  lines = omega (arith, long);
}

-- A step that fits.

none_there : {X : Type 0} (x : X) → Contains [] x → ⊥
none_there x on = let h = on.1 in omega (arith, h)

kinds : (space : Space) (step : Step) → AreasFit space step → IsTouch step
kinds space (Accesses xs) fit = tt
kinds space (Groups gs) fit = tt
kinds space (SetEvent event place gs) fit = absurd fit
kinds space (WaitEvent event place) fit = absurd fit
kinds space (ResetEvent event place) fit = absurd fit

areas_lie : (space : Space) (step : Step) → AreasFit space step → LieIn space.lines.items (accesses_of step)
areas_lie space (Accesses xs) fit x on = area_lies space x.area (All-contains (AccessFits space) xs x fit on)
areas_lie space (Groups gs) fit x on =
    let r = in_flat_map (λ (g : Group). g.transitions) gs x on in
    let g : GroupFits space r.0 = All-contains (GroupFits space) gs r.0 fit r.1 in
    area_lies space x.area (All-contains (AccessFits space) r.0.transitions x g.transitions r.2)
areas_lie space (SetEvent event place gs) fit x on = absurd fit
areas_lie space (WaitEvent event place) fit x on = absurd fit
areas_lie space (ResetEvent event place) fit x on = absurd fit

ranges_lie : (space : Space) (step : Step) → AreasFit space step → (area : Area)
    → IsRangeOf (groups_of step) area → LiesIn space.lines.items area
ranges_lie space (Accesses xs) fit area range = absurd (none_there range.group range.listed)
ranges_lie space (Groups gs) fit area range =
    let g : GroupFits space range.group = All-contains (GroupFits space) gs range.group fit range.listed in
    let d : RangeFits space range.dep.range = All-contains
    (DepFits space) range.group.deps range.dep g.ranges range.in_group in
    area_lies space area (subst (λ (o : Option Area). RangeFits space o) range.is d)
ranges_lie space (SetEvent event place gs) fit area range = absurd fit
ranges_lie space (WaitEvent event place) fit area range = absurd fit
ranges_lie space (ResetEvent event place) fit area range = absurd fit

are_held : (space : Space) (step : Step) → AreasFit space step → HoldTransitions (groups_of step)
are_held space (Accesses xs) fit g x on in_g = absurd (none_there g on)
are_held space (Groups gs) fit g x on in_g = (All-contains (GroupFits space) gs g fit on).held x in_g
are_held space (SetEvent event place gs) fit g x on in_g = absurd fit
are_held space (WaitEvent event place) fit g x on in_g = absurd fit
are_held space (ResetEvent event place) fit g x on in_g = absurd fit

pub may_touch : (space : Space) (step : Step) → Fits space step → MayTouch space.lines.items step
may_touch space step fits = record {
  kind = kinds space step fits.areas;
  number = fits.number;
  next = fits.next;
  areas = areas_lie space step fits.areas;
  ranges = ranges_lie space step fits.areas;
  held = are_held space step fits.areas;
}

-- The resources of a trace.

-- one of these lines declares it
abbrev IsDeclared : ℕ → List Declared → Resource → Type 0
IsDeclared n ds r = (d : Declared) × Contains ds d × (says_resource n d ≡ Some r)

declared_in : (n : ℕ) (ds : List Declared) (r : Resource) → said (says_resource n) ds ≡ Some r
    → IsDeclared n ds r
declared_in n [] r e = absurd (let h : None ≡ Some r = e in cc)
declared_in n (d ∷ ds) r e = by_head (says_resource n d) refl (declared_in n ds r) e
  where
    by_head : (o : Option Resource) → says_resource n d ≡ o
        → (said (says_resource n) ds ≡ Some r → IsDeclared n ds r)
        → slice_get (cons_option o (filter_map (says_resource n) ds)) 0 ≡ Some r → IsDeclared n (d ∷ ds) r
    by_head None is later found = let h = later found in (h.0, in_cons d ds h.0 h.1, h.2)
    by_head (Some s) is later found = (d, in_first d ds, is ∙ found)

inside_buffer : (res size n : ℕ) (r : Resource) (b : Bool) → (res == n) ≡ b
    → (if b then Some (BufferOf size) else None) ≡ Some r → (area : Area) → area_resource area ≡ n
    → IsIn (Some r) area
    → IsIn (Some (BufferOf size)) area × (res ≡ area_resource area)
inside_buffer res size n r true same e area at is =
    let s : BufferOf size ≡ r = cc in
    (subst (λ (z : Resource). IsIn (Some z) area) (sym s) is, eqb-true res n same ∙ sym at)
inside_buffer res size n r false same e area at is = cc

inside_image : (res mips layers n : ℕ) (r : Resource) (b : Bool) → (res == n) ≡ b
    → (if b then Some (ImageOf mips layers) else None) ≡ Some r → (area : Area) → area_resource area ≡ n
    → IsIn (Some r) area
    → IsIn (Some (ImageOf mips layers)) area × (res ≡ area_resource area)
inside_image res mips layers n r true same e area at is =
    let s : ImageOf mips layers ≡ r = cc in
    (subst (λ (z : Resource). IsIn (Some z) area) (sym s) is, eqb-true res n same ∙ sym at)
inside_image res mips layers n r false same e area at is = cc

inside_of : (n : ℕ) (d : Declared) (r : Resource) → says_resource n d ≡ Some r → (area : Area)
    → area_resource area ≡ n → IsIn (Some r) area → IsInsideOf d area
inside_of n (declared.Buffer res size sharing) r says (Bytes q span) at is =
    let h = inside_buffer res size n r (res == n) refl says (Bytes q span) at is in
    (h.1, h.0.0, h.0.1)
inside_of n (declared.Buffer res size sharing) r says (Image q box) at is =
    absurd ((inside_buffer res size n r (res == n) refl says (Image q box) at is).0)
inside_of n (declared.Image res mips layers initial sharing) r says (Image q box) at is =
    let h = inside_image res mips layers n r (res == n) refl says (Image q box) at is in
    (h.1, h.0.0, h.0.1, h.0.2, h.0.3)
inside_of n (declared.Image res mips layers initial sharing) r says (Bytes q span) at is =
    absurd ((inside_image res mips layers n r (res == n) refl says (Bytes q span) at is).0)
inside_of n other r says area at is = absurd (let h : None ≡ Some r = says in cc)

-- an area of a declared resource
inside_some : (ds : List Declared) (area : Area) (o : Option Resource)
    → said (says_resource (area_resource area)) ds ≡ o → IsIn o area → (d : Declared) × Contains ds d
    × IsInsideOf d area
inside_some ds area None e is = absurd is
inside_some ds area (Some r) e is =
    let h = declared_in (area_resource area) ds r e in
    (h.0, h.1, inside_of (area_resource area) h.0 r h.2 area refl is)

pub has_resources : (t : Trace) (space : Space) →
    ((d : Declared) (area : Area) → Contains t.resources d → IsInsideOf d area
    → LiesIn space.lines.items area) → length space.lines.items ≤ length t.resources → HasResources t space
has_resources t space lies few = record {
  areas = λ area is.
      let h = inside_some t.resources area (resource_of t (area_resource area)) refl is in
      has_area space area (lies h.0 area h.1 h.2);
  lines = few;
}
