-- What holds so far holds after a recording begins.
use Rattle.std.proofs.Common.{◌≡◌, ℕ, ◌+◌, ◌<◌, ◌≤◌, List, [], ◌∷◌, Bool, true, false, eqb, cond, Option}
use Rattle.std.proofs.Common.{None, Some, refl, sym, ◌∙◌, ap, subst, arith, map, sum_by, is_some, find}
use Rattle.std.proofs.Common.{slice_index_or, option_and_then, All, AllPairs, Contains, eq-eqb, ◌==◌}
use Rattle.std.proofs.Common.{if◌then◌else◌}
use Rattle.std.specs.Option.{option_or}
use Rattle.std.proofs.lemmas.List.{map-append}
use Rattle.std.proofs.lemmas.List.Elements.{All-nil, All-cons, All-push, Contains-append_left}
use Rattle.std.proofs.lemmas.List.Folds.{find-append}
use Rattle.std.proofs.lemmas.List.Quantifiers.{all_pairs_push}
use Rattle.std.proofs.lemmas.Option.{none-some}
use Rattle.sv_model.specs.declared.line.Mark.{Mark}
use Rattle.sv_model.specs.declared.line.Mark.TheVariants.{Publish, Call}
use Rattle.sv_model.specs.declared.line.Recording.{Recording}
use Rattle.sv_model.specs.declared.line.Trace.{Trace}
use Rattle.sv_model.specs.Recordings.{lowered, steps_in}
use Rattle.sv_model.specs.Declarations.{recording_of}
use Rattle.sv_model.specs.History.{IsOfTrace, published_by}
use Rattle.sv_model.specs.Lawful.{Differ, HasFamily, script_of}
use Rattle.sv_model.specs.Size.{step_size, work_size}
use Rattle.sv_rules.specs.Trace.{begun}
use Rattle.sv_rules.specs.SoFar.{IsLawfulSoFar, RecordingIsLawfulSoFar}
use Rattle.sv_rules.proofs.Growth.{Grows, Keeps, kept, call_kept}
use Rattle.sv_rules.proofs.Lists.{Holds, given_same, some_found}
use Rattle.sv_rules.proofs.Sizes.{CommandsAreLawful, IsAsLarge, names_all, calls_same, found_size_same}
use Rattle.sv_rules.proofs.SoFar.{recording_kept, found_lawful}

abbrev pub fresh : ℕ → ℕ → ℕ → Recording
fresh rec recorder family = record { rec = rec; recorder = recorder; family = family; commands = [] }

-- a number that is not found is none of the numbers
not_chosen : {X : Type 0} (b : Bool) (x : X) (rest : Option X) → cond b (Some x) rest ≡ None → (b ≡ false)
    × (rest ≡ None)
not_chosen true x rest e = absurd (none-some x (sym e))
not_chosen false x rest e = (refl, e)

other_number : (m n : ℕ) → eqb m n ≡ false → Differ m n
other_number m n e same = let h : true ≡ false = sym (eq-eqb m n same) ∙ e in cc

none_named : {X : Type 0} (number : X → ℕ) (n : ℕ) (xs : List X) → find (λ (x : X). number x == n) xs ≡ None
    → All (λ m. Differ m n) (map number xs)
none_named number n [] e = All-nil (λ m. Differ m n)
none_named number n (x ∷ xs) e =
    let parts = not_chosen (number x == n) x (find (λ y. number y == n) xs) e in
    All-cons (λ m. Differ m n) (number x) (map number xs) (other_number (number x) n parts.0)
    (none_named number n xs parts.1)

-- the recordings that are found, with one more
found_more : (t : Trace) (r : Recording) (k : ℕ) → recording_of (begun t r) k
    ≡ option_or (recording_of t k) (cond (eqb r.rec k) (Some r) None)
found_more t r k = find-append (λ (x : Recording). x.rec == k) t.recordings (r ∷ [])

keeps_recordings : (t : Trace) (r : Recording) (k : ℕ) → Keeps (recording_of t k) (recording_of (begun t r) k)
keeps_recordings t r k x e = found_more t r k ∙ ap (λ o. option_or o (cond (eqb r.rec k) (Some r) None)) e

grown : (t : Trace) (r : Recording) → Grows t (begun t r)
grown t r = record {
  queues = λ k x e. e;
  resources = λ k x e. e;
  kinds = λ k x e. e;
  events = λ k x e. e;
  fences = λ k x e. e;
  passes = λ k x e. e;
  recordings = λ family k h. kept (HasFamily family) (recording_of t k) (recording_of (begun t r) k)
      (λ none. none) (keeps_recordings t r k) h;
}

same_where_found : {X : Type 0} (old new : Option X) → is_some old ≡ true → Keeps old new → new ≡ old
same_where_found None new some keeps = absurd (let h : false ≡ true = some in cc)
same_where_found (Some x) new some keeps = keeps x refl

of_trace_still : (t : Trace) (r : Recording) (m : Mark) → IsOfTrace t m → IsOfTrace (begun t r) m
of_trace_still t r (Publish k) h =
    subst (λ numbers. Contains numbers k) (sym (map-append (λ (x : Recording). x.rec) t.recordings (r ∷ [])))
    (Contains-append_left (map (λ (x : Recording). x.rec) t.recordings) (r.rec ∷ []) k h)
of_trace_still t r (Call lane index) h = tt

published_same : (t : Trace) (r : Recording) (recorder : ℕ) (m : Mark) → IsOfTrace t m
    → published_by (begun t r) recorder m ≡ published_by t recorder m
published_same t r recorder (Publish k) h =
    ap (option_and_then (λ (x : Recording). if x.recorder == recorder then Some k else None))
    (same_where_found (recording_of t k) (recording_of (begun t r) k)
    (some_found (λ (x : Recording). x.rec) t.recordings k h.0 k h.1 h.2) (keeps_recordings t r k))
published_same t r recorder (Call lane index) h = refl

-- a recording without commands has no size
size_more : (t u : Trace) → Grows t u → (rec recorder family : ℕ) (b : Bool) (o : Option Recording)
    → Holds (CommandsAreLawful t) o
    → sum_by step_size (steps_in u (option_or o (cond b (Some (fresh rec recorder family)) None)))
    ≡ sum_by step_size (steps_in t o)
unfolding lowered
size_more t u g rec recorder family b (Some r) h = found_size_same t u g (Some r) h
size_more t u g rec recorder family true None h = refl
size_more t u g rec recorder family false None h = refl

pub after_beginning : (lines : ℕ) (t : Trace) (rec recorder family : ℕ) → IsLawfulSoFar lines t → lines + 1
    ≤ 1000000 → recording_of t rec ≡ None
    → rec < 65536 → recorder < 16 → family < 65536
    → IsLawfulSoFar (lines + 1) (begun t (fresh rec recorder family))
after_beginning lines t rec recorder family h fewer new small few_recorders small_family = record {
  few = fewer;
  declared = h.declared;
  recordings = All-push (RecordingIsLawfulSoFar (lines + 1) (begun t (fresh rec recorder family)))
      t.recordings (fresh rec recorder family)
      (λ k r lt. recording_kept lines t (begun t (fresh rec recorder family)) g
      (slice_index_or t.recordings k r) (λ e. e) (h.recordings k r lt))
      (record {
        number = small;
        recorder = few_recorders;
        family = small_family;
        few = omega arith;
        commands = tt;
        end = λ e. tt;
      });
  recordings_once = subst (AllPairs Differ) (sym (map-append (λ (x : Recording). x.rec) t.recordings
      (fresh rec recorder family ∷ [])))
      (all_pairs_push Differ (map (λ (x : Recording). x.rec) t.recordings) rec h.recordings_once
      (none_named (λ (x : Recording). x.rec) rec t.recordings new));
  lane_count = h.lane_count;
  lanes = λ lane k l lt. call_kept t (begun t (fresh rec recorder family)) g lane
      (slice_index_or (script_of t lane) k l) (h.lanes lane k l lt);
  recorder_count = h.recorder_count;
  once = h.once;
  of_trace = λ k m lt. of_trace_still t (fresh rec recorder family) (slice_index_or t.text_order k m)
      (h.of_trace k m lt);
  by_lane = h.by_lane;
  by_recorder = λ n. given_same (published_by (begun t (fresh rec recorder family)) n)
      (published_by t n) t.text_order
      (λ k m lt. published_same t (fresh rec recorder family) n (slice_index_or t.text_order k m)
      (h.of_trace k m lt)) ∙ h.by_recorder n;
  ended = h.ended;
  named = h.named;
  events = (let most = h.events in omega (arith, most));
  size = subst (λ n. n ≤ 4000000) (sym same_size) h.size;
}
  where
    g : Grows t (begun t (fresh rec recorder family))
    g = grown t (fresh rec recorder family)

    as_large : (k : ℕ) → IsAsLarge t (begun t (fresh rec recorder family)) k
    as_large k =
        ap (λ o. sum_by step_size (steps_in (begun t (fresh rec recorder family)) o))
        (found_more t (fresh rec recorder family) k)
        ∙ size_more t (begun t (fresh rec recorder family)) g rec recorder family (eqb rec k)
        (recording_of t k) (found_lawful lines t k h.recordings)

    same_size : work_size (begun t (fresh rec recorder family)) ≡ work_size t
    same_size = calls_same t (begun t (fresh rec recorder family)) t.lane_scripts
        (λ lane k l lt. names_all (IsAsLarge t (begun t (fresh rec recorder family))) as_large
        (slice_index_or (script_of t lane) k l))
