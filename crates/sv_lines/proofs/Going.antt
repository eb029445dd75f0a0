-- The checker is sound after one more command of a recording.
use Rattle.std.proofs.Common.{◌≡◌, ℕ, ◌+◌, ◌<◌, List, [], ◌∷◌, ◌++◌, Bool, true, false, not, ◌&&◌, eqb}
use Rattle.std.proofs.Common.{cond, Option, None, Some, refl, sym, ◌∙◌, ap, subst, arith, length, map}
use Rattle.std.proofs.Common.{sum_by, set, inl, inr, eq-eqb}
use Rattle.std.proofs.lemmas.Bool.Decides.{eqb_tells}
use Rattle.std.proofs.lemmas.List.{length-map}
use Rattle.std.proofs.lemmas.Option.{get_or_from_slice_get, slice_get_within}
use Rattle.std.specs.BTreeMap.{get}
use Rattle.std.specs.Ordering.{nat_cmp}
use Rattle.std.specs.Prelude.{is_some, option_map, reverse, slice_get, slice_index_or, ◌==◌}
use Rattle.sv_model.specs.declared.line.Command.{Command}
use Rattle.sv_model.specs.declared.line.Recording.{Recording}
use Rattle.sv_model.specs.declared.line.Trace.{Trace}
use Rattle.sv_model.specs.Recordings.{scope_after, lowered, steps_in, steps_of}
use Rattle.sv_model.specs.Declarations.{recording_of}
use Rattle.sv_model.specs.LawfulCommands.{IsLawfulCommand}
use Rattle.sv_model.specs.Size.{recording_size, step_size, work_size, capped}
use Rattle.sv_lines.specs.declared.taken.TakenLines.TheInside.{Inside}
use Rattle.sv_lines.specs.declared.known.Known.{Known}
use Rattle.sv_rules.specs.declared.standing.Standing.{Standing}
use Rattle.sv_lines.specs.Following.{IsSizeOf, standing_after}
use Rattle.sv_lines.specs.KnownParts.{stands_so, with_one_more}
use Rattle.sv_rules.specs.Places.{is_open_by, is_recording}
use Rattle.sv_lines.specs.Sound.{IsSound, IsFitScope, IsSteady, KeepsPasses, known_of, passes_only}
use Rattle.sv_lines.specs.Sound.{sized_part, trace_from}
use Rattle.sv_rules.specs.Standings.{standing_of}
use Rattle.sv_rules.specs.Taken.{has_ended}
use Rattle.sv_rules.specs.Trace.{with_command}
use Rattle.sv_lines.proofs.Ending.{known_found, same_place}
use Rattle.sv_lines.proofs.Everywhere.{any_map, at_map, find_map, map_map, map_none, map_one, map_some}
use Rattle.sv_lines.proofs.Found.{found_number, place_map}
use Rattle.sv_lines.proofs.Kept.{IsSoundInside, trace_in}
use Rattle.sv_lines.proofs.Longer.{here_next, more_kept, reverse_more, scope_fits, size_more, stands_after}
use Rattle.sv_lines.proofs.Sized.{recording_same, same_passes}

-- What a command leaves of its recording, and of others.

chosen_rec : (b : Bool) (c : Command) (r : Recording) → (cond b (with_one_more c r) r).rec ≡ r.rec
chosen_rec true c r = refl
chosen_rec false c r = refl

same_rec : (rec : ℕ) (c : Command) (r : Recording) → (with_command rec c r).rec ≡ r.rec
same_rec rec c r = chosen_rec (eqb r.rec rec) c r

chosen_recorder : (b : Bool) (c : Command) (r : Recording) → (cond b (with_one_more c r) r).recorder
    ≡ r.recorder
chosen_recorder true c r = refl
chosen_recorder false c r = refl

same_recorder : (rec : ℕ) (c : Command) (r : Recording) → (with_command rec c r).recorder ≡ r.recorder
same_recorder rec c r = chosen_recorder (eqb r.rec rec) c r

unchanged : (rec : ℕ) (c : Command) (r : Recording) → eqb r.rec rec ≡ false → with_command rec c r ≡ r
unchanged rec c r e = ap (λ b. cond b (with_one_more c r) r) e

changed : (c : Command) (r : Recording) → with_command r.rec c r ≡ with_one_more c r
changed c r = ap (λ b. cond b (with_one_more c r) r) (eq-eqb r.rec r.rec refl)

-- The trace after it.

abbrev pub recordings_after : Inside → ℕ → Command → List Recording
recordings_after x rec c = map (with_command rec c) x.recordings.list.items

abbrev pub recorded_in : Inside → List Recording → Trace
recorded_in x recordings = trace_from x.queues.lines.items x.resources.lines.items x.semaphores.lines.items
    x.events.lines.items x.fences.lines.items x.passes.lines.items recordings x.scripts.lanes
    x.scripts.recorders x.scripts.order.items

abbrev after : Inside → ℕ → Command → Trace
after x rec c = recorded_in x (recordings_after x rec c)

-- the recording at that place
pub record Stands (x : Inside) (p : ℕ) (r : Recording) : Type 0 where
  pub sound : IsSoundInside x
  pub at : slice_get x.recordings.list.items p ≡ Some r
  pub not_ended : has_ended (trace_in x) r.rec ≡ false

within : (x : Inside) (p : ℕ) (r : Recording) → Stands x p r → p < length x.recordings.list.items
within x p r s = slice_get_within x.recordings.list.items p r s.at

here_is : (x : Inside) (p : ℕ) (r : Recording) → Stands x p r → (d : Recording)
    → slice_index_or x.recordings.list.items p d ≡ r
here_is x p r s d = get_or_from_slice_get x.recordings.list.items p r d s.at

-- every other recording stays as it is
other_kept : (x : Inside) (p : ℕ) (r : Recording) (c : Command) → Stands x p r → (k : ℕ) (d : Recording) → k
    < length x.recordings.list.items → (k ≡ p → ⊥)
    → with_command r.rec c (slice_index_or x.recordings.list.items k d)
    ≡ slice_index_or x.recordings.list.items k d
other_kept x p r c s k d lt apart = elim (eqb_tells (slice_index_or x.recordings.list.items k d).rec r.rec) [
  | inl same ↦ absurd (apart (same_place x k p d s.sound lt (within x p r s)
      (same.1 ∙ sym (ap (λ (y : Recording). y.rec) (here_is x p r s d)))))
  | inr other ↦ unchanged r.rec c (slice_index_or x.recordings.list.items k d) other.0
]

-- a property of each recording after the command
each_after : (P : ℕ → Recording → Type 0) (x : Inside) (p : ℕ) (r : Recording) (c : Command) → Stands x p r
    → ((k : ℕ) (d : Recording) → k < length x.recordings.list.items
    → P k (slice_index_or x.recordings.list.items k d)) → P p (with_one_more c r)
    → (k : ℕ) (d : Recording) → k < length (recordings_after x r.rec c)
    → P k (slice_index_or (recordings_after x r.rec c) k d)
each_after P x p r c s old new k d lt =
    let count = length-map x.recordings.list.items (with_command r.rec c) in
    let inside : k < length x.recordings.list.items = omega (arith, lt, count) in
    subst (λ (y : Recording). P k y) (sym (at_map
    (with_command r.rec c) x.recordings.list.items k d d inside))
    (elim (eqb_tells k p) [
      | inl same ↦ subst (λ (n : ℕ). P n (with_command r.rec c
          (slice_index_or x.recordings.list.items n d))) (sym same.1)
          (subst (λ (y : Recording). P p y) (sym (ap (with_command r.rec c) (here_is x p r s d)
          ∙ changed c r)) new)
      | inr other ↦ subst (λ (y : Recording). P k y) (sym (other_kept x p r c s k d inside other.1))
          (old k d inside)
    ])

-- Of each field.

ended_same : (x : Inside) (rec : ℕ) (c : Command) (n : ℕ) → has_ended (after x rec c) n
    ≡ has_ended (trace_in x) n
unfolding has_ended
ended_same x rec c n = refl

open_same : (x : Inside) (rec : ℕ) (c : Command) (k : ℕ) (y : Recording)
    → is_open_by (after x rec c) k (with_command rec c y) ≡ is_open_by (trace_in x) k y
open_same x rec c k y =
    ap (λ n. eqb n k && not (has_ended (after x rec c) (with_command rec c y).rec)) (same_recorder rec c y)
    ∙ ap (λ n. eqb y.recorder k && not (has_ended (after x rec c) n)) (same_rec rec c y)
    ∙ ap (λ b. eqb y.recorder k && not b) (ended_same x rec c y.rec)

busy_same : (x : Inside) (rec : ℕ) (c : Command) (k : ℕ) → is_recording (after x rec c) k
    ≡ is_recording (trace_in x) k
unfolding is_recording
busy_same x rec c k = any_map (is_open_by (after x rec c) k) (is_open_by (trace_in x) k)
    (with_command rec c) (open_same x rec c k) x.recordings.list.items

found_after : (x : Inside) (rec : ℕ) (c : Command) (n : ℕ) → recording_of (after x rec c) n
    ≡ option_map (with_command rec c) (recording_of (trace_in x) n)
found_after x rec c n = find_map (λ (r : Recording). r.rec == n) (λ (r : Recording). r.rec == n)
    (with_command rec c) (λ y. ap (λ m. eqb m n) (same_rec rec c y)) x.recordings.list.items

-- a recording that has ended has the size that it had
size_where : (x : Inside) (r : Recording) (c : Command) (k : ℕ) → has_ended (trace_in x) r.rec ≡ false
    → has_ended (trace_in x) k ≡ true → (o : Option Recording) → recording_of (trace_in x) k ≡ o
    → sum_by step_size (steps_in (sized_part (after x r.rec c)) (option_map (with_command r.rec c) o))
    ≡ sum_by step_size (steps_in (sized_part (trace_in x)) o)
size_where x r c k not_ended e None found = refl
size_where x r c k not_ended e (Some y) found =
    ap (λ (z : Recording). sum_by step_size (steps_in (sized_part (after x r.rec c)) (Some z)))
    (unchanged r.rec c y apart)
    ∙ recording_same (sized_part (trace_in x)) (sized_part (after x r.rec c))
    (same_passes (sized_part (trace_in x)) (sized_part (after x r.rec c)) refl) (Some y)
  where
    apart : eqb y.rec r.rec ≡ false
    apart = elim (eqb_tells y.rec r.rec) [
      | inl same ↦ absurd (let both : true ≡ false = sym e
          ∙ ap (has_ended (trace_in x)) (sym (found_number k x.recordings.list.items y found) ∙ same.1)
          ∙ not_ended in cc)
      | inr other ↦ other.0
    ]

size_ended : (x : Inside) (r : Recording) (c : Command) (k : ℕ) → has_ended (trace_in x) r.rec ≡ false
    → has_ended (trace_in x) k ≡ true
    → recording_size (sized_part (after x r.rec c)) k ≡ recording_size (sized_part (trace_in x)) k
size_ended x r c k not_ended e =
    ap (λ o. sum_by step_size (steps_in (sized_part (after x r.rec c)) o)) (found_after x r.rec c k)
    ∙ size_where x r c k not_ended e (recording_of (trace_in x) k) refl

work_kept : (x : Inside) (p : ℕ) (r : Recording) (c : Command) → Stands x p r
    → work_size (sized_part (after x r.rec c)) ≡ work_size (sized_part (trace_in x))
work_kept x p r c s = s.sound.steady.calls (sized_part (after x r.rec c))
    (λ k e. size_ended x r c k s.not_ended e)

lone_after : (x : Inside) (p : ℕ) (r : Recording) (c : Command) → Stands x p r → (i j : ℕ) (d : Recording)
    → i < length (recordings_after x r.rec c) → j < length (recordings_after x r.rec c)
    → is_open_by (after x r.rec c) (slice_index_or (recordings_after x r.rec c) i d).recorder
    (slice_index_or (recordings_after x r.rec c) i d) ≡ true
    → is_open_by (after x r.rec c) (slice_index_or (recordings_after x r.rec c) i d).recorder
    (slice_index_or (recordings_after x r.rec c) j d) ≡ true → i ≡ j
lone_after x p r c s i j d lt inside a b =
    let count = length-map x.recordings.list.items (with_command r.rec c) in
    let li : i < length x.recordings.list.items = omega (arith, lt, count) in
    let lj : j < length x.recordings.list.items = omega (arith, inside, count) in
    let ei = at_map (with_command r.rec c) x.recordings.list.items i d d li in
    let ej = at_map (with_command r.rec c) x.recordings.list.items j d d lj in
    let recorder = ap (λ (y : Recording). y.recorder) ei
    ∙ same_recorder r.rec c (slice_index_or x.recordings.list.items i d) in
    s.sound.recorded.lone i j d li lj
    (sym (open_same x r.rec c (slice_index_or x.recordings.list.items i d).recorder
    (slice_index_or x.recordings.list.items i d))
    ∙ subst (λ (y : Recording). is_open_by (after x r.rec c)
    (slice_index_or x.recordings.list.items i d).recorder y ≡ true) ei
    (subst (λ (n : ℕ). is_open_by (after x r.rec c) n (slice_index_or (recordings_after x r.rec c) i d)
    ≡ true) recorder a))
    (sym (open_same x r.rec c (slice_index_or x.recordings.list.items i d).recorder
    (slice_index_or x.recordings.list.items j d))
    ∙ subst (λ (y : Recording). is_open_by (after x r.rec c)
    (slice_index_or x.recordings.list.items i d).recorder y ≡ true) ej
    (subst (λ (n : ℕ). is_open_by (after x r.rec c) n (slice_index_or (recordings_after x r.rec c) j d)
    ≡ true) recorder b))

-- What is known of it.

-- the command is lawful there, and adds that much
pub record Adds (x : Inside) (r : Recording) (c : Command) (place : Standing) (total : ℕ) : Type 0 where
  pub lawful : IsLawfulCommand (trace_in x) r.family (scope_after (reverse r.commands)) c
  pub stands : place ≡ standing_after (standing_of (scope_after (reverse r.commands))) c
  pub added : ℕ
  pub size : IsSizeOf (trace_in x) r.family (standing_of (scope_after (reverse r.commands))) c added
  pub both : (m n : ℕ) → (known_of (trace_in x) r).size ≡ capped m → added ≡ capped n → total ≡ capped (m + n)

fit_here : (x : Inside) (p : ℕ) (r : Recording) → Stands x p r
    → IsFitScope (trace_in x) (scope_after (reverse r.commands))
fit_here x p r s = subst (λ (y : Recording). IsFitScope (trace_in x) (scope_after (reverse y.commands)))
    (here_is x p r s r) (s.sound.steady.scopes p r (within x p r s))

known_next : (x : Inside) (p : ℕ) (r : Recording) (c : Command) (place : Standing) (total : ℕ)
    → Stands x p r → Adds x r c place total
    → stands_so place total (known_of (trace_in x) r) ≡ known_of (after x r.rec c) (with_one_more c r)
unfolding has_ended
known_next x p r c place total s a =
    let fit = fit_here x p r s in
    ap (λ (y : Standing). record (known_of (trace_in x) r) { standing = y; size = total })
    (a.stands ∙ stands_after (trace_in x) (λ n. get nat_cmp x.sizes n) s.sound.steady.sizes r.family c
    (reverse r.commands) fit a.lawful
    ∙ ap (λ (cs : List Command). standing_of (scope_after cs)) (sym (reverse_more r.commands c)))
    ∙ ap (λ n. record (known_of (trace_in x) r) {
      standing = standing_of (scope_after (reverse (r.commands ++ c ∷ [])));
      size = n;
    })
    (a.both (sum_by step_size (lowered (passes_only (trace_in x)) r (reverse r.commands)))
    (sum_by step_size (steps_of (trace_in x) (here_next (trace_in x) r c)
    (scope_after (reverse r.commands)) c)) refl
    (a.size (here_next (trace_in x) r c) (scope_after (reverse r.commands)) refl refl fit a.lawful)
    ∙ ap capped (sym (size_more (trace_in x) r c fit a.lawful)))

known_kept : (x : Inside) (rec : ℕ) (c : Command) (y : Recording) → known_of (trace_in x) y
    ≡ known_of (after x rec c) y
unfolding has_ended
known_kept x rec c y = refl

known_after : (x : Inside) (p : ℕ) (r : Recording) (c : Command) (place : Standing) (total : ℕ) (k : Known)
    → Stands x p r → Adds x r c place total
    → set x.recordings.known.items p (stands_so place total (slice_index_or x.recordings.known.items p k))
    ≡ map (known_of (after x r.rec c)) (recordings_after x r.rec c)
known_after x p r c place total k s a =
    ap (λ (y : Known). set x.recordings.known.items p (stands_so place total y))
    (known_found x p r k s.sound s.at)
    ∙ ap (λ (y : Known). set x.recordings.known.items p y) (known_next x p r c place total s a
    ∙ sym (ap (λ (y : Recording). known_of (after x r.rec c) y)
    (ap (with_command r.rec c) (here_is x p r s r) ∙ changed c r)))
    ∙ ap (λ (ks : List Known). set ks p (known_of (after x r.rec c)
    (with_command r.rec c (slice_index_or x.recordings.list.items p r)))) s.sound.recorded.known
    ∙ map_one (known_of (trace_in x)) (λ (y : Recording). known_of (after x r.rec c)
    (with_command r.rec c y)) x.recordings.list.items p r (within x p r s)
    (λ i lt apart. known_kept x r.rec c (slice_index_or x.recordings.list.items i r)
    ∙ sym (ap (known_of (after x r.rec c)) (other_kept x p r c s i r lt apart)))
    ∙ sym (map_map (known_of (after x r.rec c)) (with_command r.rec c) x.recordings.list.items)

steady_after : (x : Inside) (p : ℕ) (r : Recording) (c : Command) → Stands x p r
    → IsLawfulCommand (trace_in x) r.family (scope_after (reverse r.commands)) c
    → IsSteady (after x r.rec c) x.sizes
unfolding has_ended
steady_after x p r c s lawful = record {
  scopes = each_after (λ k y. IsFitScope (trace_in x) (scope_after (reverse y.commands))) x p r c s
      s.sound.steady.scopes
      (subst (λ (cs : List Command). IsFitScope (trace_in x) (scope_after cs))
      (sym (reverse_more r.commands c)) (scope_fits (trace_in x) r.family c (reverse r.commands)
      (fit_here x p r s) lawful));
  steps = each_after (λ k y. (u : Trace) → KeepsPasses (trace_in x) u → lowered u y (reverse y.commands)
      ≡ lowered (passes_only (trace_in x)) y (reverse y.commands)) x p r c s s.sound.steady.steps
      (λ u keeps. more_kept (trace_in x) u keeps r c (fit_here x p r s) lawful
      (subst (λ (y : Recording). lowered u y (reverse y.commands)
      ≡ lowered (passes_only (trace_in x)) y (reverse y.commands)) (here_is x p r s r)
      (s.sound.steady.steps p r (within x p r s) u keeps)));
  calls = λ u keeps. s.sound.steady.calls u (λ k e. keeps k e ∙ size_ended x r c k s.not_ended e)
      ∙ sym (work_kept x p r c s);
  sizes = s.sound.steady.sizes;
}

pub command_sound : (x : Inside) (p : ℕ) (r : Recording) (c : Command) (place : Standing) (total : ℕ)
    (k : Known) → Stands x p r → x.lines < 1000000 → Adds x r c place total
    → IsSound (x.lines + 1) (after x r.rec c) x.size x.queues.table x.resources.table x.semaphores.table
    x.events.table x.fences.table x.passes.table x.sizes
    (set x.recordings.known.items p (stands_so place total (slice_index_or x.recordings.known.items p k)))
    x.recordings.places x.recordings.busy
command_sound x p r c place total k s fewer a = record {
  declared = record {
    queues = s.sound.declared.queues;
    resources = s.sound.declared.resources;
    semaphores = s.sound.declared.semaphores;
    events = s.sound.declared.events;
    fences = s.sound.declared.fences;
    passes = s.sound.declared.passes;
    passes_known = s.sound.declared.passes_known;
  };
  recorded = record {
    known = known_after x p r c place total k s a;
    places = λ n. place_map (with_command r.rec c) x.recordings.list.items
        (get nat_cmp x.recordings.places n) ∙ ap (option_map (with_command r.rec c))
        (s.sound.recorded.places n) ∙ sym (found_after x r.rec c n);
    places_known = λ n. s.sound.recorded.places_known n
        ∙ sym (map_some (with_command r.rec c) (recording_of (trace_in x) n))
        ∙ sym (ap is_some (found_after x r.rec c n));
    unknown = λ n none. ended_same x r.rec c n ∙ s.sound.recorded.unknown n
        (map_none (with_command r.rec c) (recording_of (trace_in x) n)
        (sym (found_after x r.rec c n) ∙ none));
    recorder_count = s.sound.recorded.recorder_count;
    busy = λ n. s.sound.recorded.busy n ∙ sym (busy_same x r.rec c n);
    own = each_after (λ n y. get nat_cmp x.recordings.places y.rec ≡ Some n) x p r c s s.sound.recorded.own
        (subst (λ (y : Recording). get nat_cmp x.recordings.places y.rec ≡ Some p) (here_is x p r s r)
        (s.sound.recorded.own p r (within x p r s)));
    small = each_after (λ n y. y.recorder < 16) x p r c s s.sound.recorded.small
        (subst (λ (y : Recording). y.recorder < 16) (here_is x p r s r)
        (s.sound.recorded.small p r (within x p r s)));
    lone = lone_after x p r c s;
  };
  steady = steady_after x p r c s a.lawful;
  size = s.sound.size ∙ ap capped (sym (work_kept x p r c s));
  few = omega (arith, fewer);
  lanes = s.sound.lanes;
  recorders = s.sound.recorders;
  short = λ lane. let before = s.sound.short lane in omega (arith, before);
}

-- the list with the one recording changed
pub list_after : (x : Inside) (p : ℕ) (r : Recording) (c : Command) → Stands x p r → (d : Recording)
    → set x.recordings.list.items p (with_one_more c (slice_index_or x.recordings.list.items p d))
    ≡ recordings_after x r.rec c
list_after x p r c s d =
    ap (λ (y : Recording). set x.recordings.list.items p y)
    (ap (with_one_more c) (here_is x p r s d) ∙ sym (changed c r)
    ∙ sym (ap (with_command r.rec c) (here_is x p r s r)))
    ∙ ap (λ (ys : List Recording). set ys p (with_command r.rec c
    (slice_index_or x.recordings.list.items p r))) (sym (map_self x.recordings.list.items))
    ∙ map_one (λ (y : Recording). y) (with_command r.rec c) x.recordings.list.items p r (within x p r s)
    (λ i lt apart. sym (other_kept x p r c s i r lt apart))
  where
    map_self : (ys : List Recording) → map (λ (y : Recording). y) ys ≡ ys
    map_self [] = refl
    map_self (y ∷ ys) = ap (λ rest. y ∷ rest) (map_self ys)
