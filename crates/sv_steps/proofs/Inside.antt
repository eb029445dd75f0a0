-- What lies inside the resources of a trace may be taken by the space, the layouts and the owners of these
-- resources.
use Rattle.std.proofs.Common.{ℕ, ◌<◌, ◌^◌, ◌≡◌, List, Option, Some, None, length, refl, subst, arith}
use Rattle.std.specs.List.{All}
use Rattle.std.proofs.lemmas.List.Elements.{All-weaker}
use Rattle.sv_mask.specs.declared.layout.Layout.{Layout}
use Rattle.sv_model.specs.declared.line.Trace.{Trace}
use Rattle.sv_model.specs.declared.work.Area.{Area}
use Rattle.sv_model.specs.declared.work.Area.TheVariants.{Bytes, Image}
use Rattle.sv_model.specs.declared.work.Group.{Group}
use Rattle.sv_model.specs.declared.work.Old.{Old}
use Rattle.sv_model.specs.declared.work.Step.{Step}
use Rattle.sv_model.specs.declared.work.Step.TheVariants.{Accesses, Groups, SetEvent, WaitEvent, ResetEvent}
use Rattle.sv_model.specs.declared.work.Transfer.{Transfer}
use Rattle.sv_model.specs.Declarations.{Resource, BufferOf, ImageOf, resource_of}
use Rattle.sv_model.specs.Lawful.{IsLawful}
use Rattle.sv_range.specs.declared.span.Cells.{Cells}
use Rattle.sv_range.specs.declared.span.Span.{Span}
use Rattle.sv_cellmap.specs.Maps.{HasArea, HasBox, HasSpan}
use Rattle.sv_layout.specs.Layouts as layouts
use Rattle.sv_layout.specs.Taking as layout_taking
use Rattle.sv_layout.specs.declared.layouts.Layouts.{Layouts}
use Rattle.sv_owner.specs.Owners as owners
use Rattle.sv_owner.specs.Taking as owner_taking
use Rattle.sv_owner.specs.declared.owners.Owners.{Owners}
use Rattle.sv_space.specs.Areas.{IsAreaOf, IsIn}
use Rattle.sv_space.specs.Space as space
use Rattle.sv_space.specs.Steps.{IsNext}
use Rattle.sv_space.specs.declared.space.Space.{Space}
use Rattle.sv_steps.specs.Checked.{Fits, HaveAreas}
use Rattle.sv_step_laws.specs.Steps.{IsAccessOf, IsDepOf, IsGroupOf, IsOfImage, IsOldOf, IsRangeOf}
use Rattle.sv_model.specs.Size.{HasShortOlds}
use Rattle.sv_step_laws.specs.Steps.{IsShortStep, IsTransferOf, IsStepOf, MayDeclare}
use Rattle.sv_steps.specs.declared.checks.Checks.{Checks}
use Rattle.sv_model.proofs.PlainCommands.{bounded}

-- Layouts are of images.

module _ (t : Trace) (lawful : IsLawful t) where
  layouts_box : (l : Layouts) → layouts.HasImages t l → (res : ℕ) (box : Cells) (o : Option Resource)
      → resource_of t res ≡ o → IsIn o (Image res box) → HasBox l.map.images.items res box
  layouts_box l has res box None e is = absurd is
  layouts_box l has res box (Some (BufferOf size)) e is = absurd is
  layouts_box l has res box (Some (ImageOf mips layers)) e is =
      let b = bounded t lawful res (Some (ImageOf mips layers)) e in
      let m = b.0 in
      let n = b.1 in
      has res mips layers box e (omega (arith, m)) (omega (arith, n))
      (record { some_mips = is.0; some_layers = is.2; mips_end = is.1; layers_end = is.3 })

  layouts_area : (l : Layouts) → layouts.HasImages t l → (a : Area) → IsAreaOf t a → IsOfImage a
      → HasArea l.map a
  layouts_area l has (Bytes res span) is image = absurd image
  layouts_area l has (Image res box) is image = layouts_box l has res box (resource_of t res) refl is

  owners_box : (l : Owners) → owners.HasResources t l → (res : ℕ) (box : Cells) (o : Option Resource)
      → resource_of t res ≡ o → IsIn o (Image res box) → HasBox l.map.images.items res box
  owners_box l has res box None e is = absurd is
  owners_box l has res box (Some (BufferOf size)) e is = absurd is
  owners_box l has res box (Some (ImageOf mips layers)) e is =
      let b = bounded t lawful res (Some (ImageOf mips layers)) e in
      let m = b.0 in
      let n = b.1 in
      has.boxes res mips layers box e (omega (arith, m)) (omega (arith, n))
      (record { some_mips = is.0; some_layers = is.2; mips_end = is.1; layers_end = is.3 })

  owners_span : (l : Owners) → owners.HasResources t l → (res : ℕ) (span : Span) (o : Option Resource)
      → resource_of t res ≡ o → IsIn o (Bytes res span) → HasSpan l.map.buffers.items res 0 span
  owners_span l has res span None e is = absurd is
  owners_span l has res span (Some (BufferOf size)) e is = has.spans res size span e is.0 is.1
  owners_span l has res span (Some (ImageOf mips layers)) e is = absurd is

  owners_area : (l : Owners) → owners.HasResources t l → (a : Area) → IsAreaOf t a → HasArea l.map a
  owners_area l has (Bytes res span) is = owners_span l has res span (resource_of t res) refl is
  owners_area l has (Image res box) is = owners_box l has res box (resource_of t res) refl is

  -- One step.

  layout_access : (l : Layouts) → layouts.HasImages t l → (area : Area) (o : Option Layout)
      → IsAreaOf t area → MayDeclare area o → layout_taking.HasAreaFor l.map area o
  layout_access l has area None is may = tt
  layout_access l has area (Some layout) is may = layouts_area l has area is may

  range_fits : (s : Space) → space.HasResources t s → (o : Option Area) → IsRangeOf t o → space.RangeFits s o
  range_fits s has None is = tt
  range_fits s has (Some area) is = has.areas area is

  space_group : (s : Space) → space.HasResources t s → (g : Group) → IsGroupOf t g → space.GroupFits s g
  space_group s has g is = record {
    ranges = All-weaker (IsDepOf t) (space.DepFits s) (λ d h. range_fits s has d.range h) g.deps is.ranges;
    transitions = All-weaker (IsAccessOf t) (space.AccessFits s)
        (λ a h. has.areas a.area h.area) g.transitions is.transitions;
    held = is.held;
  }

  layout_group : (l : Layouts) → layouts.HasImages t l → (g : Group) → length g.olds < 2 ^ 32
      → IsGroupOf t g → layout_taking.GroupFits l.map g
  layout_group l has g short is = record {
    short = short;
    inside = All-weaker (IsOldOf t) (λ (o : Old). HasArea l.map o.area)
        (λ o h. layouts_area l has o.area h.area h.image) g.olds is.olds;
  }

  owner_group : (l : Owners) → owners.HasResources t l → (g : Group) → length g.olds < 2 ^ 32
      → IsGroupOf t g → (o : Option Transfer) → g.transfer ≡ o → owner_taking.GroupFitsBy l.map g o
  owner_group l has g short is (Some x) e = owners_area l has x.area (subst (IsTransferOf t) e is.transfer)
  owner_group l has g short is None e = record {
    short = let p = is.paired in omega (arith, p, short);
    paired = is.paired;
    inside = All-weaker (IsAccessOf t) (owner_taking.AccessFits l.map)
        (λ a h. owners_area l has a.area h.area) g.transitions is.transitions;
  }

  all_both : {X : Type 0} (P Q : X → Type 0) (xs : List X) → All P xs → All Q xs
      → All (λ (x : X). P x × Q x) xs
  all_both P Q xs p q k d lt = (p k d lt, q k d lt)

  -- a numbered step inside the resources, with few groups and pairs of layouts, may be taken
  pub step_fits : (c : Checks) → HaveAreas t c → (n : ℕ) (s : Step) → IsNext n s → IsStepOf t s
      → IsShortStep s → Fits c s
  step_fits c has n (Accesses list) next is short = record {
    space = record {
      number = n;
      next = next;
      areas = All-weaker (IsAccessOf t) (space.AccessFits c.space)
          (λ a h. has.space.areas a.area h.area) list is;
    };
    layouts = All-weaker (IsAccessOf t) (layout_taking.AccessFits c.layouts.map)
        (λ a h. layout_access c.layouts has.layouts a.area a.layout h.area h.layout) list is;
    owners = All-weaker (IsAccessOf t) (owner_taking.AccessFits c.owners.map)
        (λ a h. owners_area c.owners has.owners a.area h.area) list is;
  }
  step_fits c has n (Groups list) next is short =
      let both = all_both (IsGroupOf t) HasShortOlds list is short.1 in record {
        space = record {
          number = n;
          next = next;
          areas =
              All-weaker (IsGroupOf t) (space.GroupFits c.space) (space_group c.space has.space) list is;
        };
        layouts = (
          short.0,
          All-weaker (λ (g : Group). IsGroupOf t g × HasShortOlds g)
              (layout_taking.GroupFits c.layouts.map)
              (λ g h. layout_group c.layouts has.layouts g h.1 h.0) list both,
        );
        owners = (
          short.0,
          All-weaker (λ (g : Group). IsGroupOf t g × HasShortOlds g)
              (owner_taking.GroupFits c.owners.map)
              (λ g h. owner_group c.owners has.owners g h.1 h.0 g.transfer refl) list both,
        );
      }
  step_fits c has n (SetEvent event place list) next is short = absurd short
  step_fits c has n (WaitEvent event place) next is short = absurd short
  step_fits c has n (ResetEvent event place) next is short = absurd short
