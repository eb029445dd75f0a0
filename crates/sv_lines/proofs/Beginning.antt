-- The checker is sound after a recording begins.
use Rattle.std.proofs.Common.{◌≡◌, ℕ, zero, suc, ◌+◌, ◌<◌, List, [], ◌∷◌, ◌++◌, Bool, true, false, not}
use Rattle.std.proofs.Common.{◌||◌, ◌&&◌, eqb, cond, Option, None, Some, refl, sym, ◌∙◌, ap, subst, arith}
use Rattle.std.proofs.Common.{length, map, sum_by, get_or, set, length-set, length-append, inl, inr, eq-eqb}
use Rattle.std.proofs.lemmas.Bool.{and_parts, cases_lt}
use Rattle.std.proofs.lemmas.Bool.Decides.{eqb_tells}
use Rattle.std.proofs.lemmas.Grind.{common_steps}
use Rattle.std.proofs.lemmas.List.{get_or-set_same, get_or-set_other}
use Rattle.std.proofs.lemmas.List.Folds.{list_any-append}
use Rattle.std.specs.BTreeMap.{BTreeMap, get}
use Rattle.std.specs.Ordering.{nat_cmp}
use Rattle.std.specs.List.{list_any, find}
use Rattle.std.specs.Prelude.{is_none, is_some, option_and_then, slice_get, slice_index_or, ◌==◌, reverse}
use Rattle.std.specs.Option.{option_or}
use Rattle.sv_model.specs.declared.line.Recording.{Recording}
use Rattle.sv_model.specs.declared.line.Trace.{Trace}
use Rattle.sv_model.specs.Declarations.{recording_of}
use Rattle.sv_model.specs.Recordings.{lowered, scope_after, steps_in}
use Rattle.sv_model.specs.Size.{work_size, recording_size, step_size, capped}
use Rattle.sv_lines.specs.declared.taken.TakenLines.TheInside.{Inside}
use Rattle.sv_lines.specs.declared.known.Known.{Known}
use Rattle.sv_rules.specs.declared.standing.Standing.TheVariants as standing
use Rattle.sv_rules.specs.Named.{is_new_recording}
use Rattle.sv_rules.specs.Places.{is_open_by, is_recording}
use Rattle.sv_lines.specs.Sound.{IsSound, IsSteady, IsFitScope, KeepsPasses, passes_only, known_of}
use Rattle.sv_lines.specs.Sound.{sized_part, trace_from}
use Rattle.sv_lines.specs.Tables.{Puts, IsAsBefore}
use Rattle.sv_rules.specs.Taken.{has_ended}
use Rattle.sv_lines.proofs.Declared.{number_is}
use Rattle.sv_lines.proofs.Kept.{IsSoundInside, trace_in}
use Rattle.sv_rules.proofs.Passing.{none_at}
use Rattle.sv_lines.proofs.Sized.{lowered_same, same_passes, work_same}

-- Lists with one more.

pub get_more : {A : Type 0} (xs : List A) (x : A) → slice_get (xs ++ x ∷ []) (length xs) ≡ Some x
get_more [] x = refl
get_more (y ∷ xs) x = get_more xs x

pub get_before : {A : Type 0} (xs : List A) (x y : A) (i : ℕ) → slice_get xs i ≡ Some y
    → slice_get (xs ++ x ∷ []) i ≡ Some y
get_before [] x y i e = absurd (let h : None ≡ Some y = e in cc)
get_before (z ∷ xs) x y zero e = e
get_before (z ∷ xs) x y (suc i) e = get_before xs x y i e

find_step : {A : Type 0} (b : Bool) (x : A) (old new more : Option A) → new ≡ option_or old more
    → cond b (Some x) new ≡ option_or (cond b (Some x) old) more
find_step true x old new more e = refl
find_step false x old new more e = e

find_more : {A : Type 0} (p : A → Bool) (xs : List A) (x : A) → find p (xs ++ x ∷ [])
    ≡ option_or (find p xs) (cond (p x) (Some x) None)
find_more p [] x = refl
find_more p (y ∷ xs) x = find_step (p y) y (find p xs) (find p (xs ++ x ∷ [])) (cond (p x) (Some x) None)
    (find_more p xs x)

map_more : {A B : Type 0} (f : A → B) (xs : List A) (x : A) → map f (xs ++ x ∷ []) ≡ map f xs ++ f x ∷ []
map_more f [] x = refl
map_more f (y ∷ xs) x = ap (λ ys. f y ∷ ys) (map_more f xs x)

none_next : {A : Type 0} (o : Option A) → option_or o None ≡ o
none_next None = refl
none_next (Some x) = refl

none_of_new : {A : Type 0} (o : Option A) → is_none o ≡ true → o ≡ None
none_of_new None e = refl
none_of_new (Some x) e = cc

pub some_of_known : {A : Type 0} (o : Option A) → true ≡ is_some o → (y : A) × (o ≡ Some y)
some_of_known None e = absurd (let h : true ≡ false = e in cc)
some_of_known (Some y) e = (y, refl)

-- The new recording.

abbrev pub fresh : ℕ → ℕ → ℕ → Recording
fresh rec recorder family = record { rec = rec; recorder = recorder; family = family; commands = [] }

abbrev pub fresh_known : ℕ → ℕ → Known
fresh_known recorder family = record {
  recorder = recorder;
  family = family;
  ended = false;
  standing = standing.Outside;
  size = 0;
}

abbrev pub begun_in : Inside → List Recording → Trace
begun_in x recordings = trace_from x.queues.lines.items x.resources.lines.items x.semaphores.lines.items
    x.events.lines.items x.fences.lines.items x.passes.lines.items recordings x.scripts.lanes
    x.scripts.recorders x.scripts.order.items

abbrev pub with_fresh : Inside → ℕ → ℕ → ℕ → List Recording
with_fresh x rec recorder family = x.recordings.list.items ++ fresh rec recorder family ∷ []

place_step : (x : Inside) (n : ℕ) (r : Recording) (o : Option ℕ) (found : Option Recording)
    → option_and_then (slice_get x.recordings.list.items) o ≡ found → is_some o ≡ is_some found
    → option_and_then (slice_get (x.recordings.list.items ++ r ∷ [])) o ≡ option_or found None
place_step x n r None found e k = e ∙ sym (none_next found)
place_step x n r (Some i) found e k =
    let some = some_of_known found k in
    get_before x.recordings.list.items r some.0 i (e ∙ some.1) ∙ sym (some.1) ∙ sym (none_next found)

place_more : (x : Inside) (rec recorder family n : ℕ) (b : Bool) → IsSoundInside x
    → recording_of (trace_in x) rec ≡ None → (b ≡ true → rec ≡ n)
    → option_and_then (slice_get (with_fresh x rec recorder family))
    (cond b (Some (length x.recordings.list.items)) (get nat_cmp x.recordings.places n))
    ≡ option_or (recording_of (trace_in x) n) (cond b (Some (fresh rec recorder family)) None)
place_more x rec recorder family n true h new same =
    get_more x.recordings.list.items (fresh rec recorder family)
    ∙ sym (ap (λ o. option_or o (Some (fresh rec recorder family)))
    (sym (ap (recording_of (trace_in x)) (same refl)) ∙ new))
place_more x rec recorder family n false h new same =
    place_step x n (fresh rec recorder family) (get nat_cmp x.recordings.places n)
    (recording_of (trace_in x) n) (h.recorded.places n) (h.recorded.places_known n)

known_more : (b : Bool) (v : ℕ) (r : Recording) (old : Option ℕ) (found : Option Recording) → is_some old
    ≡ is_some found → is_some (cond b (Some v) old) ≡ is_some (option_or found (cond b (Some r) None))
known_more true v r old None e = refl
known_more true v r old (Some y) e = refl
known_more false v r old None e = e
known_more false v r old (Some y) e = e

still_unknown : (found more : Option Recording) → option_or found more ≡ None → found ≡ None
still_unknown None more e = refl
still_unknown (Some y) more e = absurd (let h : Some y ≡ None = e in cc)

or_true : (b : Bool) → (b || true) ≡ true
or_true true = refl
or_true false = refl

or_nothing : (b : Bool) → (b || false) ≡ b
or_nothing true = refl
or_nothing false = refl

-- a recorder is recording after one begins
busy_more : (x : Inside) (rec recorder family k : ℕ) → IsSoundInside x → recording_of (trace_in x) rec
    ≡ None → recorder < length x.recordings.busy
    → get_or (set x.recordings.busy recorder true) k false
    ≡ is_recording (begun_in x (with_fresh x rec recorder family)) k
unfolding is_recording has_ended
busy_more x rec recorder family k h new lt =
    elim (eqb_tells k recorder) [
      | inl same ↦ ap (λ n. get_or (set x.recordings.busy recorder true) n false) same.1
          ∙ get_or-set_same x.recordings.busy recorder true false lt
          ∙ sym (or_true (is_recording (trace_in x) k))
          ∙ ap (λ b. is_recording (trace_in x) k || b)
          (sym (opens true (ap (λ n. eqb recorder n) same.1 ∙ self recorder)))
          ∙ sym (list_any-append (is_open_by (trace_in x) k) x.recordings.list.items
          (fresh rec recorder family ∷ []))
      | inr other ↦ get_or-set_other x.recordings.busy recorder k true false other.1 ∙ h.recorded.busy k
          ∙ sym (or_nothing (is_recording (trace_in x) k))
          ∙ ap (λ b. is_recording (trace_in x) k || b) (sym (closed (differ other.1)))
          ∙ sym (list_any-append (is_open_by (trace_in x) k) x.recordings.list.items
          (fresh rec recorder family ∷ []))
    ]
  where
    self : (n : ℕ) → eqb n n ≡ true
    self n = eq-eqb n n refl

    differ : (k ≡ recorder → ⊥) → eqb recorder k ≡ false
    differ apart = elim (eqb_tells recorder k) [
      | inl same ↦ absurd (apart (sym same.1))
      | inr other
          ↦ other.0
    ]

    opens : (b : Bool) → eqb recorder k ≡ b → list_any (is_open_by (trace_in x) k)
        (fresh rec recorder family ∷ []) ≡ b
    opens b e = ap (λ y. (y && not (has_ended (trace_in x) rec)) || false) e ∙ rest b
      where
        rest : (b : Bool) → ((b && not (has_ended (trace_in x) rec)) || false) ≡ b
        rest true = ap (λ y. not y || false) (h.recorded.unknown rec new)
        rest false = refl

    closed : eqb recorder k ≡ false → list_any (is_open_by (trace_in x) k) (fresh rec recorder family ∷ [])
        ≡ false
    closed e = opens false e

fresh_is : (x : Inside) (rec recorder family : ℕ) → IsSoundInside x → recording_of (trace_in x) rec ≡ None
    → fresh_known recorder family ≡ known_of (begun_in x (with_fresh x rec recorder family))
    (fresh rec recorder family)
unfolding lowered has_ended
fresh_is x rec recorder family h new = ap (λ b. record (fresh_known recorder family) { ended = b })
    (sym (h.recorded.unknown rec new))

-- the sizes of recordings are as before: the new one has none
size_step : (t u : Trace) → u.passes ≡ t.passes → (rec recorder family k : ℕ) (b : Bool)
    (found : Option Recording) → (b ≡ true → found ≡ None)
    → sum_by step_size (steps_in u (option_or found (cond b (Some (fresh rec recorder family)) None)))
    ≡ sum_by step_size (steps_in t found)
unfolding lowered
size_step t u e rec recorder family k b (Some r) new =
    ap (sum_by step_size) (lowered_same t u (same_passes t u e) r (reverse r.commands))
size_step t u e rec recorder family k true None new = refl
size_step t u e rec recorder family k false None new = refl

-- each recording has the size that it had
one_kept : (x : Inside) (rec recorder family : ℕ) → recording_of (trace_in x) rec ≡ None → (k : ℕ)
    → recording_size (sized_part (begun_in x (with_fresh x rec recorder family))) k
    ≡ recording_size (sized_part (trace_in x)) k
one_kept x rec recorder family new k =
    ap (λ o. sum_by step_size (steps_in (sized_part (begun_in x (with_fresh x rec recorder family))) o))
    (find_more (λ (r : Recording). r.rec == k) x.recordings.list.items (fresh rec recorder family))
    ∙ size_step (sized_part (trace_in x)) (sized_part (begun_in x (with_fresh x rec recorder family))) refl
    rec recorder family k (eqb rec k) (recording_of (trace_in x) k)
    (λ e. sym (ap (recording_of (trace_in x)) (number_is rec k e)) ∙ new)

-- the new one has no steps
fresh_steps : (t u : Trace) (rec recorder family : ℕ) → lowered u (fresh rec recorder family) []
    ≡ lowered t (fresh rec recorder family) []
unfolding lowered
fresh_steps t u rec recorder family = refl

size_kept : (x : Inside) (rec recorder family : ℕ) → recording_of (trace_in x) rec ≡ None
    → work_size (sized_part (begun_in x (with_fresh x rec recorder family)))
    ≡ work_size (sized_part (trace_in x))
size_kept x rec recorder family new =
    work_same (sized_part (trace_in x)) (sized_part (begun_in x (with_fresh x rec recorder family)))
    (one_kept x rec recorder family new) x.scripts.lanes

-- Places of the recordings with one more: an earlier one, or the new one.

at_before : (xs : List Recording) (x d : Recording) (k : ℕ) → k < length xs
    → slice_index_or (xs ++ x ∷ []) k d ≡ slice_index_or xs k d
at_before xs x d k lt = grind (arith, common_steps)

at_end : (xs : List Recording) (x d : Recording) → slice_index_or (xs ++ x ∷ []) (length xs) d ≡ x
at_end xs x d = grind (arith, common_steps)

length_more : (xs : List Recording) (x : Recording) → length (xs ++ x ∷ []) ≡ length xs + 1
length_more xs x = length-append xs (x ∷ [])

-- a property of each place of a longer list
each_more : (P : ℕ → Recording → Type 0) (xs : List Recording) (x d : Recording)
    → ((k : ℕ) → k < length xs → P k (slice_index_or xs k d)) → P (length xs) x
    → (k : ℕ) → k < length (xs ++ x ∷ []) → P k (slice_index_or (xs ++ x ∷ []) k d)
each_more P xs x d before last k lt = elim (cases_lt k (length xs)) [
  | inl less ↦ subst (λ (r : Recording). P k r) (sym (at_before xs x d k less)) (before k less)
  | inr more ↦ let same : k ≡ length xs = (let n = length_more xs x in omega (arith, n, lt, more)) in
      subst (λ (i : ℕ). P i (slice_index_or (xs ++ x ∷ []) i d)) (sym same)
      (subst (λ (r : Recording). P (length xs) r) (sym (at_end xs x d)) last)
]

not_taken : (x : Inside) (rec k : ℕ) (d : Recording) → IsSoundInside x → recording_of (trace_in x) rec
    ≡ None → k < length x.recordings.list.items → eqb rec (slice_index_or x.recordings.list.items k d).rec
    ≡ false
not_taken x rec k d h new lt = elim (eqb_tells rec (slice_index_or x.recordings.list.items k d).rec) [
  | inl same ↦ absurd (let here : is_some (get nat_cmp x.recordings.places rec) ≡ true =
      ap is_some (ap (get nat_cmp x.recordings.places) same.1 ∙ h.recorded.own k d lt) in
      let nowhere : is_some (get nat_cmp x.recordings.places rec) ≡ false = h.recorded.places_known rec
      ∙ ap is_some new in
      let both : true ≡ false = sym here ∙ nowhere in cc)
  | inr other ↦ other.0
]

own_more : (x : Inside) (rec recorder family : ℕ) (places : BTreeMap ℕ ℕ) → IsSoundInside x
    → recording_of (trace_in x) rec ≡ None → Puts x.recordings.places places rec
    (length x.recordings.list.items)
    → (k : ℕ) (d : Recording) → k < length (with_fresh x rec recorder family)
    → get nat_cmp places (slice_index_or (with_fresh x rec recorder family) k d).rec ≡ Some k
own_more x rec recorder family places h new puts k d lt =
    each_more (λ i r. get nat_cmp places r.rec ≡ Some i) x.recordings.list.items
    (fresh rec recorder family) d
    (λ i within. puts (slice_index_or x.recordings.list.items i d).rec
    ∙ ap (λ b. cond b (Some (length x.recordings.list.items))
    (get nat_cmp x.recordings.places (slice_index_or x.recordings.list.items i d).rec))
    (not_taken x rec i d h new within)
    ∙ h.recorded.own i d within)
    (puts rec ∙ ap (λ b. cond b (Some (length x.recordings.list.items))
    (get nat_cmp x.recordings.places rec)) (eq-eqb rec rec refl)) k lt

small_more : (x : Inside) (rec recorder family : ℕ) → IsSoundInside x → recorder < 16
    → (k : ℕ) (d : Recording) → k < length (with_fresh x rec recorder family)
    → (slice_index_or (with_fresh x rec recorder family) k d).recorder < 16
small_more x rec recorder family h small k d lt =
    each_more (λ i r. r.recorder < 16) x.recordings.list.items (fresh rec recorder family) d
    (λ i within. h.recorded.small i d within) small k lt

lone_more : (x : Inside) (rec recorder family : ℕ) → IsSoundInside x → is_recording (trace_in x) recorder
    ≡ false → (i j : ℕ) (d : Recording) → i < length (with_fresh x rec recorder family) → j
    < length (with_fresh x rec recorder family)
    → is_open_by (begun_in x (with_fresh x rec recorder family))
    (slice_index_or (with_fresh x rec recorder family) i d).recorder
    (slice_index_or (with_fresh x rec recorder family) i d) ≡ true
    → is_open_by (begun_in x (with_fresh x rec recorder family))
    (slice_index_or (with_fresh x rec recorder family) i d).recorder
    (slice_index_or (with_fresh x rec recorder family) j d) ≡ true → i ≡ j
unfolding has_ended is_recording
lone_more x rec recorder family h idle i j d lt within a b =
    let xs : List Recording = x.recordings.list.items in
    let f : Recording = fresh rec recorder family in
    let count = length_more x.recordings.list.items (fresh rec recorder family) in
    elim (cases_lt i (length x.recordings.list.items)) [
      | inl li ↦ elim (cases_lt j (length x.recordings.list.items)) [
        | inl lj ↦ h.recorded.lone i j d li lj
            (subst (λ (r : Recording). is_open_by (trace_in x) r.recorder r ≡ true)
            (at_before x.recordings.list.items (fresh rec recorder family) d i li) a)
            (subst (λ (r : Recording). is_open_by (trace_in x)
            (slice_index_or x.recordings.list.items i d).recorder r ≡ true)
            (at_before x.recordings.list.items (fresh rec recorder family) d j lj)
            (subst (λ (r : Recording). is_open_by (trace_in x) r.recorder
            (slice_index_or (with_fresh x rec recorder family) j d) ≡ true)
            (at_before x.recordings.list.items (fresh rec recorder family) d i li) b))
        | inr mj ↦
            let last : j ≡ length x.recordings.list.items = omega (arith, count, within, mj) in
            let opened = subst (λ (r : Recording). is_open_by (trace_in x)
            (slice_index_or x.recordings.list.items i d).recorder r ≡ true)
            (ap (λ n. slice_index_or (with_fresh x rec recorder family) n d) last
            ∙ at_end x.recordings.list.items (fresh rec recorder family) d)
            (subst (λ (r : Recording). is_open_by (trace_in x) r.recorder
            (slice_index_or (with_fresh x rec recorder family) j d) ≡ true)
            (at_before x.recordings.list.items (fresh rec recorder family) d i li) b) in
            let same = number_is recorder (slice_index_or x.recordings.list.items i d).recorder
            (and_parts (eqb recorder (slice_index_or x.recordings.list.items i d).recorder)
            (not (has_ended (trace_in x) rec)) opened).0 in
            let mine = subst (λ (n : ℕ). is_open_by (trace_in x) n
            (slice_index_or x.recordings.list.items i d) ≡ true) (sym same)
            (subst (λ (r : Recording). is_open_by (trace_in x) r.recorder r ≡ true)
            (at_before x.recordings.list.items (fresh rec recorder family) d i li) a) in
            absurd (let both : true ≡ false = sym mine
            ∙ none_at (is_open_by (trace_in x) recorder) x.recordings.list.items idle i d li in cc)
      ]
      | inr mi ↦
          let last : i ≡ length x.recordings.list.items = omega (arith, count, lt, mi) in
          elim (cases_lt j (length x.recordings.list.items)) [
            | inl lj ↦
                let mine = subst (λ (r : Recording). is_open_by (trace_in x) recorder r ≡ true)
                (at_before x.recordings.list.items (fresh rec recorder family) d j lj)
                (subst (λ (r : Recording). is_open_by (trace_in x) r.recorder
                (slice_index_or (with_fresh x rec recorder family) j d) ≡ true)
                (ap (λ n. slice_index_or (with_fresh x rec recorder family) n d) last
                ∙ at_end x.recordings.list.items (fresh rec recorder family) d) b) in
                absurd (let both : true ≡ false = sym mine
                ∙ none_at (is_open_by (trace_in x) recorder) x.recordings.list.items idle j d lj in cc)
            | inr mj ↦ omega (arith, count, last, within, mj)
          ]
    ]

-- Sound.

abbrev pub Begun : Inside → ℕ → List Recording → List Known → BTreeMap ℕ ℕ → List Bool → Type 0
Begun x lines recordings known places busy = IsSound lines
    (begun_in x recordings) x.size x.queues.table x.resources.table x.semaphores.table x.events.table
    x.fences.table x.passes.table x.sizes known places busy

steady_more : (x : Inside) (rec recorder family : ℕ) → IsSoundInside x → recording_of (trace_in x) rec
    ≡ None → IsSteady (begun_in x (with_fresh x rec recorder family)) x.sizes
unfolding has_ended
steady_more x rec recorder family h new = record {
  scopes = λ k d. each_more (λ k r. IsFitScope (trace_in x) (scope_after (reverse r.commands)))
      x.recordings.list.items (fresh rec recorder family) d (λ i lt. h.steady.scopes i d lt) tt k;
  steps = λ k d. each_more (λ k r. (u : Trace) → KeepsPasses (trace_in x) u
      → lowered u r (reverse r.commands) ≡ lowered (passes_only (trace_in x)) r (reverse r.commands))
      x.recordings.list.items (fresh rec recorder family) d
      (λ i lt. h.steady.steps i d lt) (λ u keeps. fresh_steps
      (passes_only (trace_in x)) u rec recorder family) k;
  calls = λ u keeps. h.steady.calls u (λ k ended. keeps k ended ∙ one_kept x rec recorder family new k)
      ∙ sym (size_kept x rec recorder family new);
  sizes = h.steady.sizes;
}

begin_sound : (x : Inside) (rec recorder family : ℕ) (places : BTreeMap ℕ ℕ) → IsSoundInside x → x.lines
    < 1000000 → recorder < length x.recordings.busy → recorder < 16 → is_recording (trace_in x) recorder
    ≡ false → recording_of (trace_in x) rec ≡ None
    → Puts x.recordings.places places rec (length x.recordings.list.items)
    → Begun x (x.lines + 1) (with_fresh x rec recorder family)
    (x.recordings.known.items ++ fresh_known recorder family ∷ []) places
    (set x.recordings.busy recorder true)
unfolding has_ended
begin_sound x rec recorder family places h fewer lt small idle new puts = record {
  declared = record {
    queues = h.declared.queues;
    resources = h.declared.resources;
    semaphores = h.declared.semaphores;
    events = h.declared.events;
    fences = h.declared.fences;
    passes = h.declared.passes;
    passes_known = h.declared.passes_known;
  };
  recorded = record {
    known = ap (λ (known : List Known). known ++ fresh_known recorder family ∷ []) h.recorded.known
        ∙ ap (λ k. map (known_of (trace_in x)) x.recordings.list.items ++ k ∷ [])
        (fresh_is x rec recorder family h new)
        ∙ sym (map_more (known_of (begun_in x (with_fresh x rec recorder family))) x.recordings.list.items
        (fresh rec recorder family));
    places = λ n. ap (λ o. option_and_then (slice_get (with_fresh x rec recorder family)) o) (puts n)
        ∙ place_more x rec recorder family n (eqb rec n) h new (number_is rec n)
        ∙ sym (find_more (λ (r : Recording). r.rec == n) x.recordings.list.items (fresh rec recorder family));
    places_known = λ n. ap is_some (puts n)
        ∙ known_more (eqb rec n) (length x.recordings.list.items) (fresh rec recorder family)
        (get nat_cmp x.recordings.places n) (recording_of (trace_in x) n) (h.recorded.places_known n)
        ∙ sym (ap is_some (find_more (λ (r : Recording). r.rec == n) x.recordings.list.items
        (fresh rec recorder family)));
    unknown = λ n none. h.recorded.unknown n (still_unknown (recording_of (trace_in x) n)
        (cond (eqb rec n) (Some (fresh rec recorder family)) None)
        (sym (find_more (λ (r : Recording). r.rec == n) x.recordings.list.items (fresh rec recorder family))
        ∙ none));
    recorder_count = length-set x.recordings.busy recorder true ∙ h.recorded.recorder_count;
    busy = λ k. busy_more x rec recorder family k h new lt;
    own = own_more x rec recorder family places h new puts;
    small = small_more x rec recorder family h small;
    lone = lone_more x rec recorder family h idle;
  };
  steady = steady_more x rec recorder family h new;
  size = h.size ∙ ap capped (sym (size_kept x rec recorder family new));
  few = omega (arith, fewer);
  lanes = h.lanes;
  recorders = h.recorders;
  short = λ lane. let before = h.short lane in omega (arith, before);
}

begun_same : (x : Inside) (lines : ℕ) (rs rs2 : List Recording) (ks ks2 : List Known)
    (places : BTreeMap ℕ ℕ) (bs bs2 : List Bool) → rs ≡ rs2 → ks ≡ ks2 → bs ≡ bs2
    → Begun x lines rs2 ks2 places bs2 → Begun x lines rs ks places bs
begun_same x lines rs rs2 ks ks2 places bs bs2 a b c h =
    subst (λ (r : List Recording). Begun x lines r ks places bs) (sym a)
    (subst (λ (k : List Known). Begun x lines rs2 k places bs) (sym b)
    (subst (λ (y : List Bool). Begun x lines rs2 ks2 places y) (sym c) h))

new_is_none : (t : Trace) (rec : ℕ) → is_new_recording t rec ≡ true → recording_of t rec ≡ None
unfolding is_new_recording
new_is_none t rec e = none_of_new (recording_of t rec) e

pub begin_kept : (x : Inside) (recordings : List Recording) (known : List Known) (places : BTreeMap ℕ ℕ)
    (busy : List Bool) (rec recorder family : ℕ) → IsSoundInside x → x.lines < 1000000 → recorder < 16
    → is_recording (trace_in x) recorder ≡ false
    → is_new_recording (trace_in x) rec ≡ true → recordings ≡ with_fresh x rec recorder family → known
    ≡ x.recordings.known.items ++ fresh_known recorder family ∷ []
    → Puts x.recordings.places places rec (length x.recordings.list.items) → busy
    ≡ set x.recordings.busy recorder true
    → Begun x (x.lines + 1) recordings known places busy
begin_kept x recordings known places busy rec recorder family h fewer small idle new a b puts c =
    begun_same x (x.lines + 1) recordings (with_fresh x rec recorder family) known
    (x.recordings.known.items ++ fresh_known recorder family ∷ []) places busy
    (set x.recordings.busy recorder true) a b c
    (begin_sound x rec recorder family places h fewer
    (let count = h.recorded.recorder_count in omega (arith, count, small)) small idle
    (new_is_none (trace_in x) rec new) puts)

pub begin_again : (x : Inside) (recordings : List Recording) (known : List Known) (places : BTreeMap ℕ ℕ)
    (busy : List Bool) → IsSoundInside x
    → recordings ≡ x.recordings.list.items → known ≡ x.recordings.known.items
    → IsAsBefore x.recordings.places places → busy ≡ x.recordings.busy
    → Begun x x.lines recordings known places busy
begin_again x recordings known places busy h a b p c =
    begun_same x x.lines recordings x.recordings.list.items known x.recordings.known.items places busy
    x.recordings.busy a b c (record {
      declared = h.declared;
      recorded = record {
        known = h.recorded.known;
        places = λ n. ap (λ o. option_and_then (slice_get x.recordings.list.items) o) (p n)
            ∙ h.recorded.places n;
        places_known = λ n. ap is_some (p n) ∙ h.recorded.places_known n;
        unknown = h.recorded.unknown;
        recorder_count = h.recorded.recorder_count;
        busy = h.recorded.busy;
        own = λ k d within. p (slice_index_or x.recordings.list.items k d).rec ∙ h.recorded.own k d within;
        small = h.recorded.small;
        lone = h.recorded.lone;
      };
      steady = h.steady;
      size = h.size;
      few = h.few;
      lanes = h.lanes;
      recorders = h.recorders;
      short = h.short;
    })
