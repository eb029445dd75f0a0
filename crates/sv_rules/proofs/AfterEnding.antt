-- What holds so far holds after a recording ends.
use Rattle.std.proofs.Common.{◌≡◌, ℕ, ◌+◌, ◌<◌, ◌≤◌, List, [], ◌∷◌, ◌++◌, Bool, true, false, ◌||◌, eqb}
use Rattle.std.proofs.Common.{cond, Option, None, Some, refl, sym, ◌∙◌, ap, subst, arith, length, map}
use Rattle.std.proofs.Common.{reverse, slice_index_or, option_and_then, All, AllPairs, Contains, length-set}
use Rattle.std.proofs.Common.{eq-eqb, ◌==◌, if◌then◌else◌}
use Rattle.std.proofs.lemmas.List.{get_or-map, length-map, length_push}
use Rattle.std.proofs.lemmas.List.Elements.{All-push}
use Rattle.std.proofs.lemmas.List.Quantifiers.{all_pairs_push}
use Rattle.std.proofs.lemmas.Option.{same_Some}
use Rattle.sv_model.specs.declared.line.Mark.{Mark}
use Rattle.sv_model.specs.declared.line.Mark.TheVariants.{Publish, Call}
use Rattle.sv_model.specs.declared.line.Recording.{Recording}
use Rattle.sv_model.specs.declared.line.Trace.{Trace}
use Rattle.sv_model.specs.Recordings.{scope_after}
use Rattle.sv_model.specs.Declarations.{recording_of}
use Rattle.sv_model.specs.Holding.{publishes, is_published}
use Rattle.sv_model.specs.History.{IsOfTrace, publications_of, call_by, published_by, recorder_script}
use Rattle.sv_model.specs.LawfulCommands.{IsOutside}
use Rattle.sv_model.specs.Lawful.{Differ, script_of, event_count}
use Rattle.sv_model.specs.Size.{work_size}
use Rattle.sv_model.proofs.Lists.{given_none, given_one}
use Rattle.sv_rules.specs.Trace.{published}
use Rattle.sv_rules.specs.SoFar.{IsAmong, IsLawfulSoFar, RecordingIsLawfulSoFar}
use Rattle.sv_rules.proofs.Growth.{Grows, commands_kept, call_kept}
use Rattle.sv_rules.proofs.Lists.{Holds, given_all, either, unequal, found_here, found_is, each_script}
use Rattle.sv_rules.proofs.Lists.{script_sum}
use Rattle.sv_rules.proofs.Orders.{published_more, still_published, after_more}
use Rattle.sv_rules.proofs.Passing.{same_number, none_at}
use Rattle.sv_rules.proofs.Sizes.{IsAsLarge, names_all, names_weaker, calls_same, found_size_same}
use Rattle.sv_rules.proofs.SoFar.{found_lawful}

-- the trace after the recorder of r publishes it
abbrev pub ended_by : Trace → Recording → Trace
ended_by t r = published t (Some r)

grown : (t : Trace) (r : Recording) → Grows t (ended_by t r)
grown t r = record {
  queues = λ k x e. e;
  resources = λ k x e. e;
  kinds = λ k x e. e;
  events = λ k x e. e;
  fences = λ k x e. e;
  passes = λ k x e. e;
  recordings = λ family k h. h;
}

-- A recording that is found is among the numbers.
named_at : (rs : List Recording) (k : ℕ) (d : Recording) → k < length rs
    → Contains (map (λ (x : Recording). x.rec) rs) (slice_index_or rs k d).rec
named_at rs k d lt = (
  k,
  (let long = length-map rs (λ (x : Recording). x.rec) in omega (arith, long, lt)),
  get_or-map (λ (x : Recording). x.rec) rs k d (slice_index_or rs k d).rec lt,
)

-- The recordings: the one that ends stands outside every scope.

or_false : (b : Bool) → (b || false) ≡ true → b ≡ true
or_false true e = refl
or_false false e = e

ends_outside : (t : Trace) (r x : Recording) → recording_of t r.rec ≡ Some r → recording_of t x.rec ≡ Some x
    → IsOutside (scope_after (reverse r.commands)) → r.rec ≡ x.rec
    → IsOutside (scope_after (reverse x.commands))
ends_outside t r x found here outside same =
    subst (λ (y : Recording). IsOutside (scope_after (reverse y.commands)))
    (same_Some r x (sym found ∙ ap (recording_of t) same ∙ here)) outside

after_end : (lines : ℕ) (t : Trace) (r x : Recording) → recording_of t r.rec ≡ Some r → recording_of t x.rec
    ≡ Some x → IsOutside (scope_after (reverse r.commands)) → RecordingIsLawfulSoFar lines t x
    → RecordingIsLawfulSoFar (lines + 1) (ended_by t r) x
after_end lines t r x found here outside h =
    record {
      number = h.number;
      recorder = h.recorder;
      family = h.family;
      few = (let most = h.few in omega (arith, most));
      commands = commands_kept t (ended_by t r) (grown t r) x.family (reverse x.commands) h.commands;
      end = λ e. either (is_published t.text_order x.rec) (publishes x.rec (Publish r.rec) || false)
          (IsOutside (scope_after (reverse x.commands)))
          (sym (published_more t.text_order (Publish r.rec) x.rec) ∙ e)
          h.end
          (λ now. ends_outside t r x found here outside
          (same_number r.rec x.rec (or_false (eqb r.rec x.rec) now)));
    }

-- Scripts.

by_itself : (t : Trace) (r : Recording) (recorder : ℕ) → recording_of t r.rec ≡ Some r
    → published_by (ended_by t r) recorder (Publish r.rec)
    ≡ cond (eqb r.recorder recorder) (Some r.rec) None
by_itself t r recorder found = ap (option_and_then
    (λ (x : Recording). if x.recorder == recorder then Some r.rec else None)) found

-- a recording that is not published is in no script
published_other : (t : Trace) (recorder n : ℕ) (m : Mark) → publishes n m ≡ false
    → Holds (λ k. Differ k n) (published_by t recorder m)
published_other t recorder n (Publish k) apart = by_cases (recording_of t k)
  where
    differs : Differ k n
    differs same = let h : true ≡ false = sym (eq-eqb k n same) ∙ apart in cc

    by_test : (b : Bool) → Holds (λ j. Differ j n) (cond b (Some k) None)
    by_test true = differs
    by_test false = tt

    by_cases : (o : Option Recording) → Holds (λ j. Differ j n)
        (option_and_then (λ (x : Recording). if x.recorder == recorder then Some k else None) o)
    by_cases None = tt
    by_cases (Some x) = by_test (x.recorder == recorder)
published_other t recorder n (Call lane index) apart = tt

in_no_script : (lines : ℕ) (t : Trace) (recorder n : ℕ) → IsLawfulSoFar lines t
    → is_published t.text_order n ≡ false → All (λ k. Differ k n) (recorder_script t recorder)
in_no_script lines t recorder n h open_yet = subst (All (λ k. Differ k n)) (h.by_recorder recorder)
    (given_all (published_by t recorder) (λ k. Differ k n) t.text_order
    (λ k m lt. published_other t recorder n (slice_index_or t.text_order k m)
    (none_at (publishes n) t.text_order open_yet k m lt)))

pub after_ending : (lines : ℕ) (t : Trace) (r : Recording) → IsLawfulSoFar lines t → lines + 1 ≤ 1000000
    → recording_of t r.rec ≡ Some r → is_published t.text_order r.rec ≡ false
    → IsOutside (scope_after (reverse r.commands)) → IsLawfulSoFar (lines + 1) (ended_by t r)
after_ending lines t r h fewer found open_yet outside = record {
  few = fewer;
  declared = h.declared;
  recordings = λ k x lt. after_end lines t r (slice_index_or t.recordings k x) found
      (found_here (λ (y : Recording). y.rec) t.recordings k x h.recordings_once lt) outside
      (h.recordings k x lt);
  recordings_once = h.recordings_once;
  lane_count = h.lane_count;
  lanes = λ lane k l lt. call_kept t (ended_by t r) (grown t r) lane (slice_index_or (script_of t lane) k l)
      (h.lanes lane k l lt);
  recorder_count = length-set t.recorder_scripts r.recorder (recorder_script t r.recorder ++ r.rec ∷ [])
      ∙ h.recorder_count;
  once = each_script (λ k script. AllPairs Differ script) t.recorder_scripts r.recorder r.rec within
      (λ k apart. h.once k)
      (all_pairs_push Differ (recorder_script t r.recorder) r.rec (h.once r.recorder)
      (in_no_script lines t r.recorder r.rec h open_yet));
  of_trace = All-push (IsOfTrace (ended_by t r)) t.text_order (Publish r.rec) h.of_trace
      (found_is (λ (x : Recording). Contains (map (λ (y : Recording). y.rec) t.recordings) x.rec)
      (λ (x : Recording). x.rec == r.rec) t.recordings r (λ k d lt. named_at t.recordings k d lt) found);
  by_lane = λ lane. given_none (call_by lane) t.text_order (Publish r.rec) refl ∙ h.by_lane lane;
  by_recorder = each_script (λ k script. publications_of (ended_by t r)
      (t.text_order ++ Publish r.rec ∷ []) k ≡ script) t.recorder_scripts r.recorder r.rec within
      (λ k apart. given_none (published_by (ended_by t r) k) t.text_order (Publish r.rec)
      (by_itself t r k found ∙ ap (λ b. cond b (Some r.rec) None)
      (unequal r.recorder k (λ same. apart (sym same)))) ∙ h.by_recorder k)
      (given_one (published_by (ended_by t r) r.recorder) t.text_order (Publish r.rec) r.rec
      (by_itself t r r.recorder found ∙ ap (λ b. cond b (Some r.rec) None)
      (eq-eqb r.recorder r.recorder refl)) ∙ ap (λ ks. ks ++ r.rec ∷ []) (h.by_recorder r.recorder));
  ended = after_more (ended_by t r) t.text_order (Publish r.rec) (λ n lt. h.ended n) refl;
  named = λ lane k l lt. names_weaker (IsAmong t.text_order) (IsAmong (t.text_order ++ Publish r.rec ∷ []))
      (λ n e. still_published t.text_order (Publish r.rec) n e) (slice_index_or (script_of t lane) k l)
      (h.named lane k l lt);
  events = (let most = h.events in omega (arith, most, counted));
  size = subst (λ n. n ≤ 4000000) (sym same_size) h.size;
}
  where
    within : r.recorder < length t.recorder_scripts
    within =
        let count = h.recorder_count in
        let small = (found_is (RecordingIsLawfulSoFar lines t)
        (λ (x : Recording). x.rec == r.rec) t.recordings r h.recordings found).recorder in
        omega (arith, count, small)

    counted : event_count (ended_by t r) ≡ event_count t + 1
    counted =
        let more = script_sum (λ (s : List ℕ). length s) t.recorder_scripts r.recorder r.rec 1 within
        (length_push (recorder_script t r.recorder) r.rec) in
        omega (arith, more)

    as_large : (k : ℕ) → IsAsLarge t (ended_by t r) k
    as_large k = found_size_same t (ended_by t r) (grown t r) (recording_of t k)
        (found_lawful lines t k h.recordings)

    same_size : work_size (ended_by t r) ≡ work_size t
    same_size = calls_same t (ended_by t r) t.lane_scripts
        (λ lane k l lt. names_all (IsAsLarge t (ended_by t r)) as_large
        (slice_index_or (script_of t lane) k l))
