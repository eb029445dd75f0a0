-- How much each command adds to the size of its recording.
use Rattle.std.proofs.Common.{◌≡◌, ℕ, suc, ◌+◌, List, [], ◌∷◌, Bool, true, false, not, ◌&&◌, cond, Option}
use Rattle.std.proofs.Common.{None, Some, refl, sym, ◌∙◌, ap, arith, length, map, sum_by, count_by, inl}
use Rattle.std.proofs.Common.{inr}
use Rattle.std.proofs.lemmas.Bool.Decides.{eqb_tells}
use Rattle.std.proofs.lemmas.List.{length-map}
use Rattle.std.proofs.lemmas.List.Sums.{sum_by-cons}
use Rattle.std.specs.Prelude.{is_some, option_map, filter, ◌==◌}
use Rattle.std.specs.List.{cons_option}
use Rattle.sv_mask.specs.declared.layout.Layout.{Layout}
use Rattle.sv_mask.specs.Usages.{same_layout}
use Rattle.sv_model.specs.declared.line.Attachment.{Attachment}
use Rattle.sv_model.specs.declared.line.Class.{Class}
use Rattle.sv_model.specs.declared.line.Class.TheVariants.{Color, Depth}
use Rattle.sv_model.specs.declared.line.Command.TheVariants as command
use Rattle.sv_model.specs.declared.line.Declared.{Declared}
use Rattle.sv_model.specs.declared.line.Element.{Element}
use Rattle.sv_model.specs.declared.line.Store.{Store}
use Rattle.sv_model.specs.declared.line.Store.TheVariants as store
use Rattle.sv_model.specs.declared.line.Target.{Target}
use Rattle.sv_model.specs.declared.line.Trace.{Trace}
use Rattle.sv_model.specs.declared.work.Access.{Access}
use Rattle.sv_model.specs.declared.work.Area.{Area}
use Rattle.sv_model.specs.declared.work.Dep.{Dep}
use Rattle.sv_model.specs.declared.work.Here.{Here}
use Rattle.sv_model.specs.declared.work.Old.{Old}
use Rattle.sv_model.specs.Barriers.{area_of, dependency, element_group, group_on, moves, moving, olds_of}
use Rattle.sv_model.specs.Barriers.{place_of, track_of, transfer_for, transition}
use Rattle.sv_model.specs.Recordings.{Scope, Outside, InRendering, InPass, declared_access, steps_of}
use Rattle.sv_model.specs.Rendering.{access_step, attachment_use, load_usage, rendering_loads}
use Rattle.sv_model.specs.Rendering.{rendering_stores, store_usage}
use Rattle.sv_model.specs.Size.{group_size, step_size, capped}
use Rattle.sv_model.specs.LawfulCommands.{IsLawfulCommand}
use Rattle.sv_rules.specs.declared.standing.Standing.{Standing}
use Rattle.sv_lines.specs.Following.{barrier_size, end_rendering_size, has_transition, has_transition_at}
use Rattle.sv_lines.specs.Following.{is_release, step_with}
use Rattle.sv_rules.specs.Places.{are_two_layouts}
use Rattle.sv_rules.specs.Standings.{is_stored, standing_of, stored}

-- Steps with so many parts.

step_some : (n : ℕ) → (n ≡ 0 → ⊥) → step_with n ≡ 1 + n
step_some n apart = elim (eqb_tells n 0) [
  | inl same ↦ absurd (apart same.1)
  | inr other ↦ ap (λ b. cond b 0 (1 + n)) other.0
]

plain : (n : ℕ) → 0 + n ≡ n
plain n = omega arith

pub access_total : (xs : List Access) → sum_by step_size (access_step xs) ≡ step_with (length xs)
access_total [] = refl
access_total (x ∷ xs) = plain (1 + suc (length xs))
    ∙ sym (step_some (suc (length xs)) (λ e. omega (arith, e)))

-- Accesses.

abbrev counted : Bool → ℕ
counted b = cond b 1 0

cons_count : {B : Type 0} (o : Option B) (ys : List B) → length (cons_option o ys) ≡ length ys
    + cond (is_some o) 1 0
cons_count None ys = omega arith
cons_count (Some y) ys = omega arith

stores_one : (here : Here) (a : Attachment) (class : Class) (s : Store)
    → is_some (option_map (attachment_use here a) (store_usage class s)) ≡ is_stored s
stores_one here a Color store.Nothing = refl
stores_one here a Color store.Store = refl
stores_one here a Color store.DontCare = refl
stores_one here a Depth store.Nothing = refl
stores_one here a Depth store.Store = refl
stores_one here a Depth store.DontCare = refl

stores_count : (here : Here) (attachments : List Attachment) → length (rendering_stores here attachments)
    ≡ stored attachments
stores_count here [] = refl
stores_count here (a ∷ rest) =
    let first = cons_count (option_map (attachment_use here a) (store_usage a.class a.store))
    (rendering_stores here rest) in
    let one : counted (is_some (option_map (attachment_use here a) (store_usage a.class a.store)))
    ≡ counted (is_stored a.store) = ap counted (stores_one here a a.class a.store) in
    let others = stores_count here rest in
    let whole = sum_by-cons (λ (b : Attachment). cond (is_stored b.store) 1 0) a rest in
    omega (arith, first, one, others, whole)

pub stores_total : (here : Here) (attachments : List Attachment)
    → sum_by step_size (access_step (rendering_stores here attachments)) ≡ step_with (stored attachments)
stores_total here attachments = access_total (rendering_stores here attachments)
    ∙ ap step_with (stores_count here attachments)

-- Barriers.

released : (same own : Bool) (from to : ℕ) (on : Area) (olds : List Old)
    → moving (cond same None (Some (record { release = own; from = from; to = to; area = on }))) olds
    ≡ cond (not same && own) [] (filter moves olds)
released true own from to on olds = refl
released false true from to on olds = refl
released false false from to on olds = refl

no_old : (release : Bool) → length (cond release [] (filter moves [])) ≡ cond (false && not release) 1 0
no_old true = refl
no_old false = refl

one_old : (release differ : Bool) (old : Old) → length (cond release [] (cond differ (old ∷ []) []))
    ≡ cond (differ && not release) 1 0
one_old true true old = refl
one_old true false old = refl
one_old false true old = refl
one_old false false old = refl

moving_one : (family : ℕ) (on : Area) (layouts : Option (Layout × Layout)) (families : Option (ℕ × ℕ))
    → length (moving (transfer_for family on families) (olds_of on layouts))
    ≡ cond (are_two_layouts layouts && not (is_release family families)) 1 0
moving_one family on None None = refl
moving_one family on (Some l) None = one_old false (not (same_layout l.0 l.1))
    (record { area = on; was = l.0; becomes = l.1 })
moving_one family on None (Some f) = ap length (released (f.0 == f.1) (f.0 == family) f.0 f.1 on [])
    ∙ no_old (not (f.0 == f.1) && f.0 == family)
moving_one family on (Some l) (Some f) =
    ap length (released (f.0 == f.1) (f.0 == family) f.0 f.1 on
    (record { area = on; was = l.0; becomes = l.1 } ∷ []))
    ∙ one_old (not (f.0 == f.1) && f.0 == family) (not (same_layout l.0 l.1))
    (record { area = on; was = l.0; becomes = l.1 })

target_total : (here : Here) (dep : Option Area → Dep) (target : Option Target)
    → group_size (group_on here dep target) ≡ 1 + cond (has_transition_at here.family target) 1 0
target_total here dep None = refl
target_total here dep (Some x) =
    ap (λ n. 1 + n) (length-map (moving (transfer_for here.family (area_of x.res x.part) x.families)
    (olds_of (area_of x.res x.part) x.layouts)) (transition (place_of here))
    ∙ moving_one here.family (area_of x.res x.part) x.layouts x.families)

groups_total : (here : Here) (deps : List Element) → sum_by group_size (map (element_group here) deps)
    ≡ length deps + count_by (has_transition here.family) deps
groups_total here [] = refl
groups_total here (e ∷ rest) =
    let first = sum_by-cons group_size (element_group here e) (map (element_group here) rest) in
    let one = target_total here (dependency (track_of here) e.src e.src_access
    (track_of here) e.dst e.dst_access) e.target in
    let others = groups_total here rest in
    let whole = sum_by-cons (λ (d : Element). cond (has_transition here.family d) 1 0) e rest in
    omega (arith, first, one, others, whole)

pub barrier_total : (t : Trace) (here : Here) (scope : Scope) (deps : List Element)
    → sum_by step_size (steps_of t here scope (command.Barrier deps)) ≡ barrier_size here.family deps
barrier_total t here scope deps =
    plain (1 + sum_by group_size (map (element_group here) deps)) ∙ ap (λ n. 1 + n) (groups_total here deps)

pub end_total : (t : Trace) (here : Here) (family : ℕ) (scope : Scope) (standing : Standing) (n : ℕ)
    → standing ≡ standing_of scope → IsLawfulCommand t family scope command.EndRendering → n
    ≡ capped (end_rendering_size standing)
    → n ≡ capped (sum_by step_size (steps_of t here scope command.EndRendering))
end_total t here family Outside standing n stands lawful e = absurd lawful
end_total t here family (InPass pass views i) standing n stands lawful e = absurd lawful
end_total t here family (InRendering attachments) standing n stands lawful e = e
    ∙ ap (λ (s : Standing). capped (end_rendering_size s)) stands
    ∙ ap capped (sym (stores_total here attachments))
