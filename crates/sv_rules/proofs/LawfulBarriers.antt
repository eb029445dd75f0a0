-- Barriers and sets of events that are not refused are lawful where they stand.
use Rattle.std.proofs.Common.{◌≡◌, ℕ, ◌<◌, ◌⊎◌, List, Bool, true, false, not, ◌||◌, ◌&&◌, eqb, Option, None}
use Rattle.std.proofs.Common.{Some, refl, sym, ◌∙◌, ap, subst, length, inl, inr}
use Rattle.std.specs.Prelude.{slice_index_or, option_map}
use Rattle.std.specs.List.{list_any, All}
use Rattle.std.proofs.lemmas.Bool.{or_parts}
use Rattle.std.proofs.lemmas.Bool.Decides.{eqb_tells}
use Rattle.sv_mask.specs.Scopes.{supported}
use Rattle.sv_mask.specs.Usages.{layout_number, same_layout}
use Rattle.sv_mask.specs.declared.layout.Layout.{Layout}
use Rattle.sv_model.specs.declared.line.Line.TheVariants as line
use Rattle.sv_model.specs.declared.line.Command.TheVariants as command
use Rattle.sv_model.specs.declared.line.Element.{Element}
use Rattle.sv_model.specs.declared.line.Target.{Target}
use Rattle.sv_model.specs.declared.line.Part.{Part}
use Rattle.sv_model.specs.declared.line.Part.TheVariants as part
use Rattle.sv_model.specs.declared.line.Recording.{Recording}
use Rattle.sv_model.specs.declared.line.Trace.{Trace}
use Rattle.sv_model.specs.Declarations.{recording_of, pass_of}
use Rattle.sv_model.specs.Recordings.{Scope, Outside, InRendering, InPass}
use Rattle.sv_model.specs.LawfulParts.{TargetIsLawful, IsLawfulElement, FamilyTakesPart, MayTransfer}
use Rattle.sv_model.specs.LawfulParts.{AreOneFamily, DoesNotTransfer, IsInSubpass, StaysInSubpass}
use Rattle.sv_model.specs.LawfulCommands.{MayStandIn, IsNotInRendering}
use Rattle.sv_trace.specs.Formed.{IsFormedElement, IsFormedTarget}
use Rattle.sv_rules.specs.Laws.{IsLawfulNext}
use Rattle.sv_rules.specs.Named.{is_on_new}
use Rattle.sv_rules.specs.PartRules.{goes_outside, has_no_cells, element_part, target_part, if_target}
use Rattle.sv_rules.specs.PartRules.{is_out_of_resource, is_empty}
use Rattle.sv_rules.specs.Masks.{element_unsupported, is_without_stage}
use Rattle.sv_rules.specs.Places as place
use Rattle.sv_rules.specs.SelfDependencies.{is_uncontained, is_contained, some_uncontained}
use Rattle.sv_rules.specs.SelfDependencies.{is_without_self_dependency}
use Rattle.sv_rules.specs.Standings.{standing_of, is_inside, is_in_rendering, is_in_pass}
use Rattle.sv_rules.specs.Taken.{Taken, pass_in, standing_in, scope_in, family_of_recording}
use Rattle.sv_rules.proofs.Passing.{Passes, are_declared, is_placed, is_limited, none_at, few, not_false}
use Rattle.sv_rules.proofs.Passing.{same_number}
use Rattle.sv_rules.proofs.LawfulLines.{part_inside, outside_of, event_of}

-- Elements.

target_lawful : (t : Trace) (o : Option Target) → if_target (target_part (is_on_new t)) o ≡ false
    → if_target (target_part (goes_outside t)) o ≡ false → if_target (target_part has_no_cells) o ≡ false
    → IsFormedTarget o → TargetIsLawful t o
target_lawful t None n o e formed = tt
target_lawful t (Some x) n o e formed = record {
  inside = part_inside t x.res x.part n o e;
  layouts = formed.0;
  families = formed.1;
}

element_lawful : (t : Trace) (x : Element) → element_part (is_on_new t) x ≡ false
    → element_part (goes_outside t) x ≡ false → element_part has_no_cells x ≡ false → element_unsupported x
    ≡ false
    → IsFormedElement x → IsLawfulElement t x
element_lawful t x n o e u formed =
    let masks = or_parts (not (supported x.src x.src_access)) (not (supported x.dst x.dst_access)) u in
    record {
      src = not_false (supported x.src x.src_access) masks.0;
      dst = not_false (supported x.dst x.dst_access) masks.1;
      target = target_lawful t x.target n o e formed;
    }

-- Families.

one_family : (o : Option (ℕ × ℕ)) → place.are_two o ≡ false → AreOneFamily o
one_family None e = tt
one_family (Some f) e = same_number f.0 f.1 (not_false (eqb f.0 f.1) e)

no_transfer : (o : Option Target) → place.are_two (place.families_at o) ≡ false → DoesNotTransfer o
no_transfer None e = tt
no_transfer (Some x) e = one_family x.families e

both_false : (a b c : Bool) → (not a && (b || c)) ≡ false → a ≡ false → b ≡ false
both_false a b c e h = (or_parts b c (sym (ap (λ x. not x && (b || c)) h) ∙ e)).0

one_of : (a b : Bool) → (not a && not b) ≡ false → (a ≡ true) ⊎ (b ≡ true)
one_of true b e = inl refl
one_of false b e = inr (not_false b e)

takes_part : (family : ℕ) (inside : Bool) (o : Option (ℕ × ℕ))
    → (place.are_two o && (place.are_foreign (Some family) o || inside)) ≡ false → FamilyTakesPart family o
takes_part family inside None e = tt
takes_part family inside (Some f) e = elim (eqb_tells f.0 f.1) [
  | inl same ↦ inl same.1
  | inr other ↦ elim (one_of (eqb f.0 family) (eqb f.1 family)
      (both_false (eqb f.0 f.1) (not (eqb f.0 family) && not (eqb f.1 family)) inside e other.0)) [
        | inl source ↦ inr (inl (same_number f.0 family source))
        | inr destination ↦ inr (inr (same_number f.1 family destination))
      ]
]

may_transfer : (family : ℕ) (inside : Bool) (o : Option Target)
    → (place.are_two (place.families_at o) && (place.are_foreign (Some family) (place.families_at o)
    || inside)) ≡ false → MayTransfer family o
may_transfer family inside None e = tt
may_transfer family inside (Some x) e = takes_part family inside x.families e

in_scope : (a b : Bool) → (a && (b || true)) ≡ false → a ≡ false
in_scope true true e = e
in_scope true false e = e
in_scope false b e = refl

-- Subpasses.

in_subpass : (p : Part) (l : Option (Layout × Layout)) → place.is_of_buffer p ≡ false
    → place.are_two_layouts l ≡ false → IsInSubpass p l
in_subpass (part.Bytes start end) l b e = absurd (let h : true ≡ false = b in cc)
in_subpass (part.Image mip mips layer layers) None b e = tt
in_subpass (part.Image mip mips layer layers) (Some l) b e =
    same_number (layout_number l.0) (layout_number l.1) (not_false (same_layout l.0 l.1) e)

stays : (o : Option Target) → if_target place.leaves_at o ≡ false → StaysInSubpass o
stays None e = tt
stays (Some x) e =
    let parts = or_parts (place.is_of_buffer x.part) (place.are_two_layouts x.layouts) e in
    in_subpass x.part x.layouts parts.0 parts.1

-- Barriers.

not_in_rendering : (s : Scope) → is_in_rendering (standing_of s) ≡ false → IsNotInRendering s
not_in_rendering Outside e = tt
not_in_rendering (InRendering attachments) e = absurd (let h : true ≡ false = e in cc)
not_in_rendering (InPass p views i) e = tt

-- an element stands where it may, by what the sentences say of it and of its barrier
stands : (t : Trace) (family : ℕ) (s : Scope) (deps : List Element) (k : ℕ) (d : Element) → k < length deps
    → is_in_rendering (standing_of s) ≡ false
    → place.transfers_wrongly (Some family) (is_inside (standing_of s)) (slice_index_or deps k d) ≡ false
    → (is_in_pass (standing_of s) && list_any place.leaves_subpass deps) ≡ false
    → some_uncontained t (standing_of s) deps ≡ false
    → MayStandIn t family s (slice_index_or deps k d)
unfolding pass_in
stands t family Outside deps k d lt r w l o = may_transfer family false (slice_index_or deps k d).target w
stands t family (InRendering attachments) deps k d lt r w l o = absurd (let h : true ≡ false = r in cc)
stands t family (InPass p views i) deps k d lt r w l o =
    let e : Element = slice_index_or deps k d in (
      no_transfer (slice_index_or deps k d).target
          (in_scope (place.transfers (slice_index_or deps k d))
          (place.are_foreign (Some family) (place.families_of (slice_index_or deps k d))) w),
      stays (slice_index_or deps k d).target (none_at place.leaves_subpass deps l k d lt),
      not_false (is_contained i (pass_of t p).deps (slice_index_or deps k d))
          (none_at (is_uncontained i (pass_of t p).deps) deps o k d lt),
    )

family_found : (t : Trace) (rec : ℕ) (r : Recording) → recording_of t rec ≡ Some r
    → family_of_recording t rec ≡ Some r.family
unfolding family_of_recording
family_found t rec r e = ap (option_map (λ (x : Recording). x.family)) e

pub barrier_lawful : (s : Taken) (rec : ℕ) (deps : List Element) → Passes s (line.Barrier rec deps)
    → All IsFormedElement deps → IsLawfulNext s.trace rec (command.Barrier deps)
unfolding is_out_of_resource is_empty is_without_stage is_without_self_dependency standing_in
barrier_lawful s rec deps p formed r found =
    let declared = are_declared s.trace (line.Barrier rec deps) p.declared in
    let placed = is_placed s (line.Barrier rec deps) p.place in
    record {
      where_allowed = not_in_rendering (scope_in s.trace rec) placed.forbidden;
      short = few 64 (length deps) (is_limited s (line.Barrier rec deps) p.limit).deps;
      each = λ k d lt. element_lawful s.trace (slice_index_or deps k d)
          (none_at (element_part (is_on_new s.trace)) deps declared.resource k d lt)
          (none_at (element_part (goes_outside s.trace)) deps p.inside k d lt)
          (none_at (element_part has_no_cells) deps p.some k d lt)
          (none_at element_unsupported deps p.stage k d lt)
          (formed k d lt);
      place = λ k d lt. stands s.trace r.family (scope_in s.trace rec) deps k d lt placed.forbidden
          (subst (λ (f : Option ℕ). place.transfers_wrongly f
          (is_inside (standing_of (scope_in s.trace rec))) (slice_index_or deps k d) ≡ false)
          (family_found s.trace rec r found)
          (none_at (place.transfers_wrongly (family_of_recording s.trace rec)
          (is_inside (standing_of (scope_in s.trace rec)))) deps placed.transfers k d lt))
          placed.subpass p.own;
    }

pub set_lawful : (s : Taken) (rec event : ℕ) (deps : List Element) → Passes s (line.SetEvent rec event deps)
    → All IsFormedElement deps → IsLawfulNext s.trace rec (command.SetEvent event deps)
unfolding is_out_of_resource is_empty is_without_stage standing_in
set_lawful s rec event deps p formed r found =
    let declared = are_declared s.trace (line.SetEvent rec event deps) p.declared in
    let placed = is_placed s (line.SetEvent rec event deps) p.place in
    record {
      outside = outside_of (scope_in s.trace rec) placed.forbidden;
      declared = event_of s.trace event declared.event;
      short = few 64 (length deps) (is_limited s (line.SetEvent rec event deps) p.limit).deps;
      each = λ k d lt. element_lawful s.trace (slice_index_or deps k d)
          (none_at (element_part (is_on_new s.trace)) deps declared.resource k d lt)
          (none_at (element_part (goes_outside s.trace)) deps p.inside k d lt)
          (none_at (element_part has_no_cells) deps p.some k d lt)
          (none_at element_unsupported deps p.stage k d lt)
          (formed k d lt);
      place = λ k d lt. no_transfer (slice_index_or deps k d).target
          (none_at place.transfers deps placed.transfers k d lt);
    }
