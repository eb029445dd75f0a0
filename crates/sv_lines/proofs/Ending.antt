-- The checker is sound after a recording ends.
use Rattle.std.proofs.Common.{◌≡◌, ℕ, ◌+◌, ◌<◌, List, [], ◌∷◌, ◌++◌, Bool, true, false, not, ◌||◌, ◌&&◌}
use Rattle.std.proofs.Common.{eqb, None, Some, refl, sym, ◌∙◌, ap, subst, arith, length, map, get_or, set}
use Rattle.std.proofs.Common.{length-set, inl, inr, eq-eqb}
use Rattle.std.proofs.lemmas.Bool.{and_parts}
use Rattle.std.proofs.lemmas.Bool.Decides.{eqb_tells}
use Rattle.std.proofs.lemmas.List.{get_or-set_same, get_or-set_other}
use Rattle.std.proofs.lemmas.List.Folds.{list_any-append}
use Rattle.std.proofs.lemmas.Option.{get_or_from_slice_get, slice_get_within, slice_get-map}
use Rattle.std.specs.BTreeMap.{get}
use Rattle.std.specs.Ordering.{nat_cmp}
use Rattle.std.specs.Prelude.{option_and_then, option_map, slice_get, slice_index_or}
use Rattle.sv_model.specs.declared.line.Mark.TheVariants.{Publish}
use Rattle.sv_model.specs.declared.line.Recording.{Recording}
use Rattle.sv_model.specs.declared.line.Trace.{Trace}
use Rattle.sv_model.specs.Declarations.{recording_of}
use Rattle.sv_model.specs.Holding.{publishes, is_published}
use Rattle.sv_lines.specs.declared.taken.TakenLines.TheInside.{Inside}
use Rattle.sv_lines.specs.declared.known.Known.{Known}
use Rattle.sv_lines.specs.KnownParts.{ended}
use Rattle.sv_rules.specs.Places.{is_open_by, is_recording}
use Rattle.sv_lines.specs.Sound.{IsSound, known_of, trace_from}
use Rattle.sv_rules.specs.Taken.{has_ended}
use Rattle.sv_rules.specs.Trace.{with_event}
use Rattle.sv_lines.proofs.Everywhere.{any_none, any_same, map_one}
use Rattle.sv_lines.proofs.Kept.{IsSoundInside, trace_in}

-- the trace after the recorder of r publishes it
abbrev pub ended_in : Inside → Recording → Trace
ended_in x r = trace_from x.queues.lines.items x.resources.lines.items x.semaphores.lines.items
    x.events.lines.items x.fences.lines.items x.passes.lines.items x.recordings.list.items
    x.scripts.lanes (with_event x.scripts.recorders r.recorder r.rec)
    (x.scripts.order.items ++ Publish r.rec ∷ [])

or_nothing : (b : Bool) → (b || false) ≡ b
or_nothing true = refl
or_nothing false = refl

or_true : (b : Bool) → (b || true) ≡ true
or_true true = refl
or_true false = refl

-- it has ended, and no other has
ended_or : (x : Inside) (r : Recording) (n : ℕ) → has_ended (ended_in x r) n
    ≡ (has_ended (trace_in x) n || eqb r.rec n)
unfolding has_ended
ended_or x r n = list_any-append (publishes n) x.scripts.order.items (Publish r.rec ∷ [])
    ∙ ap (λ b. is_published x.scripts.order.items n || b) (or_nothing (eqb r.rec n))

ended_now : (x : Inside) (r : Recording) → has_ended (ended_in x r) r.rec ≡ true
ended_now x r = ended_or x r r.rec ∙ ap (λ b. has_ended (trace_in x) r.rec || b) (eq-eqb r.rec r.rec refl)
    ∙ or_true (has_ended (trace_in x) r.rec)

ended_other : (x : Inside) (r : Recording) (n : ℕ) → eqb r.rec n ≡ false → has_ended (ended_in x r) n
    ≡ has_ended (trace_in x) n
ended_other x r n e = ended_or x r n ∙ ap (λ b. has_ended (trace_in x) n || b) e
    ∙ or_nothing (has_ended (trace_in x) n)

ended_still : (x : Inside) (r : Recording) (n : ℕ) → has_ended (trace_in x) n ≡ true
    → has_ended (ended_in x r) n ≡ true
ended_still x r n e = ended_or x r n ∙ ap (λ b. b || eqb r.rec n) e

not_before : (a b : Bool) → not (a || b) ≡ true → not a ≡ true
not_before true b e = e
not_before false b e = refl

join : (a b : Bool) → a ≡ true → b ≡ true → (a && b) ≡ true
join a b e h = ap (λ y. y && b) e ∙ h

-- what is open now was open before
open_before : (x : Inside) (r : Recording) (recorder : ℕ) (y : Recording)
    → is_open_by (ended_in x r) recorder y ≡ true → is_open_by (trace_in x) recorder y ≡ true
open_before x r recorder y e =
    let parts = and_parts (eqb y.recorder recorder) (not (has_ended (ended_in x r) y.rec)) e in
    join (eqb y.recorder recorder) (not (has_ended (trace_in x) y.rec)) parts.0
    (not_before (has_ended (trace_in x) y.rec) (eqb r.rec y.rec)
    (sym (ap not (ended_or x r y.rec)) ∙ parts.1))

-- Recordings of one number stand at one place.

pub same_place : (x : Inside) (i p : ℕ) (d : Recording) → IsSoundInside x → i
    < length x.recordings.list.items → p < length x.recordings.list.items
    → (slice_index_or x.recordings.list.items i d).rec ≡ (slice_index_or x.recordings.list.items p d).rec
    → i ≡ p
same_place x i p d h lt within e =
    let here : get nat_cmp x.recordings.places (slice_index_or x.recordings.list.items i d).rec ≡ Some i =
    h.recorded.own i d lt in
    let there : get nat_cmp x.recordings.places (slice_index_or x.recordings.list.items p d).rec ≡ Some p =
    h.recorded.own p d within in
    let both : Some i ≡ Some p = sym here ∙ ap (get nat_cmp x.recordings.places) e ∙ there in cc

pub other_number : (x : Inside) (i p : ℕ) (r : Recording) → IsSoundInside x → i
    < length x.recordings.list.items → p < length x.recordings.list.items
    → slice_index_or x.recordings.list.items p r ≡ r → (i ≡ p → ⊥)
    → eqb r.rec (slice_index_or x.recordings.list.items i r).rec ≡ false
other_number x i p r h lt within at apart = elim (eqb_tells r.rec
    (slice_index_or x.recordings.list.items i r).rec) [
      | inl same ↦ absurd (apart (same_place x i p r h lt within
          (sym same.1 ∙ sym (ap (λ (y : Recording). y.rec) at))))
      | inr other ↦ other.0
    ]

-- Of each field.

known_at : (x : Inside) (r : Recording) (y : Recording) → has_ended (ended_in x r) y.rec
    ≡ has_ended (trace_in x) y.rec → known_of (trace_in x) y ≡ known_of (ended_in x r) y
known_at x r y e = ap (λ b. record (known_of (trace_in x) y) { ended = b }) (sym e)

ended_known : (x : Inside) (r : Recording) → ended (known_of (trace_in x) r) ≡ known_of (ended_in x r) r
ended_known x r = ap (λ b. record (known_of (trace_in x) r) { ended = b }) (sym (ended_now x r))

pub known_found : (x : Inside) (p : ℕ) (r : Recording) (k : Known) → IsSoundInside x
    → slice_get x.recordings.list.items p ≡ Some r → slice_index_or x.recordings.known.items p k
    ≡ known_of (trace_in x) r
known_found x p r k h at =
    get_or_from_slice_get x.recordings.known.items p (known_of (trace_in x) r) k
    (ap (λ (ks : List Known). slice_get ks p) h.recorded.known
    ∙ slice_get-map (known_of (trace_in x)) x.recordings.list.items p
    ∙ ap (option_map (known_of (trace_in x))) at)

known_ended : (x : Inside) (p : ℕ) (r : Recording) (k : Known) → IsSoundInside x
    → slice_get x.recordings.list.items p ≡ Some r
    → set x.recordings.known.items p (ended (slice_index_or x.recordings.known.items p k))
    ≡ map (known_of (ended_in x r)) x.recordings.list.items
known_ended x p r k h at =
    let within = slice_get_within x.recordings.list.items p r at in
    let here = get_or_from_slice_get x.recordings.list.items p r r at in
    ap (λ (y : Known). set x.recordings.known.items p (ended y)) (known_found x p r k h at)
    ∙ ap (λ (y : Known). set x.recordings.known.items p y)
    (ended_known x r ∙ sym (ap (known_of (ended_in x r)) here))
    ∙ ap (λ (ks : List Known). set ks p (known_of (ended_in x r)
    (slice_index_or x.recordings.list.items p r))) h.recorded.known
    ∙ map_one (known_of (trace_in x)) (known_of (ended_in x r)) x.recordings.list.items p r within
    (λ i lt apart. known_at x r (slice_index_or x.recordings.list.items i r)
    (ended_other x r (slice_index_or x.recordings.list.items i r).rec
    (other_number x i p r h lt within here apart)))

found_there : (x : Inside) (p : ℕ) (r : Recording) → IsSoundInside x → slice_get x.recordings.list.items p
    ≡ Some r → recording_of (trace_in x) r.rec ≡ Some r
found_there x p r h at =
    let within = slice_get_within x.recordings.list.items p r at in
    let here = get_or_from_slice_get x.recordings.list.items p r r at in
    sym (h.recorded.places r.rec)
    ∙ ap (option_and_then (slice_get x.recordings.list.items))
    (ap (λ (y : Recording). get nat_cmp x.recordings.places y.rec) (sym here) ∙ h.recorded.own p r within)
    ∙ at

still_unknown : (x : Inside) (p : ℕ) (r : Recording) → IsSoundInside x → slice_get x.recordings.list.items p
    ≡ Some r → (n : ℕ) → recording_of (trace_in x) n ≡ None → has_ended (ended_in x r) n ≡ false
still_unknown x p r h at n none = elim (eqb_tells r.rec n) [
  | inl same ↦ absurd (let both : Some r ≡ None = sym (found_there x p r h at)
      ∙ ap (recording_of (trace_in x)) same.1 ∙ none in cc)
  | inr other ↦ ended_other x r n other.0 ∙ h.recorded.unknown n none
]

-- a recorder has no open recording once its open one ends
now_closed : (x : Inside) (p : ℕ) (r : Recording) → IsSoundInside x → slice_get x.recordings.list.items p
    ≡ Some r → has_ended (trace_in x) r.rec ≡ false
    → (i : ℕ) → i < length x.recordings.list.items
    → is_open_by (ended_in x r) r.recorder (slice_index_or x.recordings.list.items i r) ≡ false
now_closed x p r h at open_yet i lt = tell (is_open_by (ended_in x r) r.recorder
    (slice_index_or x.recordings.list.items i r)) refl
  where
    within : p < length x.recordings.list.items
    within = slice_get_within x.recordings.list.items p r at

    here : slice_index_or x.recordings.list.items p r ≡ r
    here = get_or_from_slice_get x.recordings.list.items p r r at

    mine : is_open_by (trace_in x) (slice_index_or x.recordings.list.items p r).recorder
        (slice_index_or x.recordings.list.items p r) ≡ true
    mine = subst (λ (y : Recording). is_open_by (trace_in x) y.recorder y ≡ true) (sym here)
        (join (eqb r.recorder r.recorder) (not (has_ended (trace_in x) r.rec))
        (eq-eqb r.recorder r.recorder refl) (ap not open_yet))

    closed_here : is_open_by (ended_in x r) r.recorder r ≡ false
    closed_here = ap (λ b. eqb r.recorder r.recorder && not b) (ended_now x r)
        ∙ and_none (eqb r.recorder r.recorder)
      where
        and_none : (b : Bool) → (b && false) ≡ false
        and_none true = refl
        and_none false = refl

    tell : (b : Bool) → is_open_by (ended_in x r) r.recorder (slice_index_or x.recordings.list.items i r)
        ≡ b → is_open_by (ended_in x r) r.recorder (slice_index_or x.recordings.list.items i r) ≡ false
    tell false e = e
    tell true e =
        let other : is_open_by (trace_in x) (slice_index_or x.recordings.list.items p r).recorder
        (slice_index_or x.recordings.list.items i r) ≡ true =
        ap (λ (y : Recording). is_open_by (trace_in x) y.recorder
        (slice_index_or x.recordings.list.items i r)) here
        ∙ open_before x r r.recorder (slice_index_or x.recordings.list.items i r) e in
        let one : p ≡ i = h.recorded.lone p i r within lt mine other in
        absurd (let both : true ≡ false = sym e ∙ ap
        (λ j. is_open_by (ended_in x r) r.recorder (slice_index_or x.recordings.list.items j r)) (sym one)
        ∙ ap (is_open_by (ended_in x r) r.recorder) here ∙ closed_here in cc)

-- another recorder's recordings are open as before
still_open : (x : Inside) (p : ℕ) (r : Recording) → IsSoundInside x → slice_get x.recordings.list.items p
    ≡ Some r → (k : ℕ) → eqb r.recorder k ≡ false
    → (i : ℕ) → i < length x.recordings.list.items
    → is_open_by (trace_in x) k (slice_index_or x.recordings.list.items i r)
    ≡ is_open_by (ended_in x r) k (slice_index_or x.recordings.list.items i r)
still_open x p r h at k apart i lt = elim (eqb_tells i p) [
  | inl same ↦ subst (λ (y : Recording). is_open_by (trace_in x) k y ≡ is_open_by (ended_in x r) k y)
      (sym (ap (λ j. slice_index_or x.recordings.list.items j r) same.1 ∙ here))
      (ap (λ b. b && not (has_ended (trace_in x) r.rec)) apart
      ∙ sym (ap (λ b. b && not (has_ended (ended_in x r) r.rec)) apart))
  | inr other ↦ ap (λ b. eqb (slice_index_or x.recordings.list.items i r).recorder k && not b)
      (sym (ended_other x r (slice_index_or x.recordings.list.items i r).rec
      (other_number x i p r h lt (slice_get_within x.recordings.list.items p r at) here other.1)))
]
  where
    here : slice_index_or x.recordings.list.items p r ≡ r
    here = get_or_from_slice_get x.recordings.list.items p r r at

busy_less : (x : Inside) (p : ℕ) (r : Recording) → IsSoundInside x → slice_get x.recordings.list.items p
    ≡ Some r → has_ended (trace_in x) r.rec ≡ false → r.recorder < length x.recordings.busy
    → (k : ℕ) → get_or (set x.recordings.busy r.recorder false) k false ≡ is_recording (ended_in x r) k
unfolding is_recording
busy_less x p r h at open_yet small k = elim (eqb_tells r.recorder k) [
  | inl same ↦ ap (λ n. get_or (set x.recordings.busy r.recorder false) n false) (sym same.1)
      ∙ get_or-set_same x.recordings.busy r.recorder false false small
      ∙ sym (any_none (is_open_by (ended_in x r) r.recorder) x.recordings.list.items r
      (now_closed x p r h at open_yet))
      ∙ ap (λ n. is_recording (ended_in x r) n) same.1
  | inr other ↦ get_or-set_other x.recordings.busy r.recorder k false false (λ e. other.1 (sym e))
      ∙ h.recorded.busy k
      ∙ any_same (is_open_by (trace_in x) k) (is_open_by (ended_in x r) k) x.recordings.list.items r
      (still_open x p r h at k other.0)
]

pub end_sound : (x : Inside) (p : ℕ) (r : Recording) (k : Known) → IsSoundInside x → x.lines < 1000000
    → slice_get x.recordings.list.items p ≡ Some r → has_ended (trace_in x) r.rec ≡ false
    → IsSound (x.lines + 1) (ended_in x r) x.size x.queues.table x.resources.table x.semaphores.table
    x.events.table x.fences.table x.passes.table x.sizes
    (set x.recordings.known.items p (ended (slice_index_or x.recordings.known.items p k)))
    x.recordings.places (set x.recordings.busy r.recorder false)
end_sound x p r k h fewer at open_yet =
    let here = get_or_from_slice_get x.recordings.list.items p r r at in
    let within = slice_get_within x.recordings.list.items p r at in
    let few : r.recorder < 16 = subst (λ (y : Recording). y.recorder < 16) here
    (h.recorded.small p r within) in
    record {
      declared = record {
        queues = h.declared.queues;
        resources = h.declared.resources;
        semaphores = h.declared.semaphores;
        events = h.declared.events;
        fences = h.declared.fences;
        passes = h.declared.passes;
        passes_known = h.declared.passes_known;
      };
      recorded = record {
        known = known_ended x p r k h at;
        places = h.recorded.places;
        places_known = h.recorded.places_known;
        unknown = still_unknown x p r h at;
        recorder_count = length-set x.recordings.busy r.recorder false ∙ h.recorded.recorder_count;
        busy = busy_less x p r h at open_yet (let count = h.recorded.recorder_count in
            omega (arith, count, few));
        own = h.recorded.own;
        small = h.recorded.small;
        lone = λ i j d lt inside a b. h.recorded.lone i j d lt inside
            (open_before x r (slice_index_or x.recordings.list.items i d).recorder
            (slice_index_or x.recordings.list.items i d) a)
            (open_before x r (slice_index_or x.recordings.list.items i d).recorder
            (slice_index_or x.recordings.list.items j d) b);
      };
      steady = record {
        scopes = h.steady.scopes;
        steps = h.steady.steps;
        calls = λ u keeps. h.steady.calls u (λ n e. keeps n (ended_still x r n e));
        sizes = h.steady.sizes;
      };
      size = h.size;
      few = omega (arith, fewer);
      lanes = h.lanes;
      recorders = length-set x.scripts.recorders r.recorder
          (get_or x.scripts.recorders r.recorder [] ++ r.rec ∷ []) ∙ h.recorders;
      short = λ lane. let before = h.short lane in omega (arith, before);
    }
