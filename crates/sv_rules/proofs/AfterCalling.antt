-- What holds so far holds after a lane calls.
use Rattle.std.proofs.Common.{◌≡◌, ℕ, ◌+◌, ◌<◌, ◌≤◌, List, [], ◌∷◌, ◌++◌, Bool, true, false, ◌||◌, cond}
use Rattle.std.proofs.Common.{Option, None, Some, refl, sym, ◌∙◌, ap, subst, arith, length, sum_by}
use Rattle.std.proofs.Common.{slice_get, slice_index_or, All, IsTrue, length-set, eq-eqb, get_or-set_same}
use Rattle.std.proofs.Common.{take}
use Rattle.std.specs.List.{range_with_len}
use Rattle.std.proofs.lemmas.List.{length_push}
use Rattle.std.proofs.lemmas.List.Elements.{All-push}
use Rattle.std.proofs.lemmas.List.FromFn.{length-range_with_len, get_or-range_with_len}
use Rattle.std.proofs.lemmas.List.Sums.{sum_by_push}
use Rattle.std.proofs.lemmas.Option.{slice_get-get_or}
use Rattle.sv_model.specs.declared.line.Line.{Line}
use Rattle.sv_model.specs.declared.line.Mark.{Mark}
use Rattle.sv_model.specs.declared.line.Mark.TheVariants.{Publish, Call}
use Rattle.sv_model.specs.declared.line.Trace.{Trace}
use Rattle.sv_model.specs.Declarations.{recording_of, call_of}
use Rattle.sv_model.specs.Holding.{is_published, are_published}
use Rattle.sv_model.specs.History.{IsOfTrace, calls_of, call_by, published_by, call_of_mark, batches_in}
use Rattle.sv_model.specs.Lawful.{IsLawfulCall, script_of, event_count}
use Rattle.sv_model.specs.Size.{work_size, call_size}
use Rattle.sv_model.proofs.Lists.{given_none, given_one}
use Rattle.sv_rules.specs.Trace.{called, with_event}
use Rattle.sv_rules.specs.SoFar.{IsAfterItsRecordings, IsAmong, IsLawfulSoFar, NamesAll}
use Rattle.sv_rules.proofs.Growth.{Grows, call_kept}
use Rattle.sv_rules.proofs.Lists.{Holds, givers_all, unequal, each_script, script_sum}
use Rattle.sv_rules.proofs.Orders.{get_left, get_last, range_more, published_more}
use Rattle.sv_rules.proofs.Orders.{still_published, after_more}
use Rattle.sv_rules.proofs.Sizes.{IsAsLarge, names_all, names_weaker, calls_same, found_size_same}
use Rattle.sv_rules.proofs.SoFar.{recording_kept, found_lawful}

grown : (t : Trace) (lane : ℕ) (l : Line) → Grows t (called t lane l)
grown t lane l = record {
  queues = λ k x e. e;
  resources = λ k x e. e;
  kinds = λ k x e. e;
  events = λ k x e. e;
  fences = λ k x e. e;
  passes = λ k x e. e;
  recordings = λ family k h. h;
}

or_nothing : (b : Bool) → (b || false) ≡ b
or_nothing true = refl
or_nothing false = refl

published_same : (marks : List Mark) (lane index k : ℕ) → is_published (marks ++ Call lane index ∷ []) k
    ≡ is_published marks k
published_same marks lane index k = published_more marks (Call lane index) k
    ∙ or_nothing (is_published marks k)

-- Calls in the text order are calls of the scripts.

-- the call of the mark is there
abbrev pub IsKnown : Trace → Mark → Type 0
IsKnown t (Call lane index) = index < length (script_of t lane)
IsKnown t (Publish k) = Unit {0}

known_mark : (t : Trace) (m : Mark) → ((lane : ℕ)
    → Holds (λ index. index < length (script_of t lane)) (call_by lane m)) → IsKnown t m
known_mark t (Call lane index) h = subst (λ b. Holds (λ i. i < length (script_of t lane))
    (cond b (Some index) None)) (eq-eqb lane lane refl) (h lane)
known_mark t (Publish k) h = tt

below : (n : ℕ) → All (λ i. i < n) (range_with_len 0 n)
below n k d lt =
    let small : k < n = (let long = length-range_with_len 0 n in omega (arith, long, lt)) in
    let at = get_or-range_with_len 0 n k d small in
    omega (arith, at, small)

known_at : (lines : ℕ) (t : Trace) → IsLawfulSoFar lines t → (n : ℕ) (d : Mark) → n < length t.text_order
    → IsKnown t (slice_index_or t.text_order n d)
known_at lines t h n d lt = known_mark t (slice_index_or t.text_order n d)
    (λ lane. givers_all (call_by lane) (λ i. i < length (script_of t lane)) t.text_order
    (subst (All (λ i. i < length (script_of t lane))) (sym (h.by_lane lane))
    (below (length (script_of t lane)))) n d lt)

same_call : (t : Trace) (lane : ℕ) (l : Line) → lane < length t.lane_scripts → (of index : ℕ) → index
    < length (script_of t of) → call_of (called t lane l) of index ≡ call_of t of index
same_call t lane l within of = each_script (λ n script. (index : ℕ) → index < length (script_of t n)
    → slice_get script index ≡ call_of t n index) t.lane_scripts lane l within
    (λ n apart index lt. refl) (λ index lt. get_left (script_of t lane) l index lt) of

same_mark : (t : Trace) (lane : ℕ) (l : Line) → lane < length t.lane_scripts → (m : Mark) → IsKnown t m
    → call_of_mark (called t lane l) (Some m) ≡ call_of_mark t (Some m)
same_mark t lane l within (Call of index) known = same_call t lane l within of index known
same_mark t lane l within (Publish k) known = refl

some_mark : (marks : List Mark) → (n : ℕ) → n < length marks → Mark
some_mark [] n lt = absurd (omega (arith, lt))
some_mark (m ∷ marks) n lt = m

still_after : (lines : ℕ) (t : Trace) (lane : ℕ) (l : Line) → IsLawfulSoFar lines t → lane
    < length t.lane_scripts → (n : ℕ) → n < length t.text_order
    → IsAfterItsRecordings (called t lane l) t.text_order n
still_after lines t lane l h within n lt =
    subst (λ (o : Option Line). IsTrue (are_published (take n t.text_order) (batches_in o))) (sym same)
    (h.ended n)
  where
    found : slice_get t.text_order n ≡ Some (slice_index_or t.text_order n (some_mark t.text_order n lt))
    found = slice_get-get_or t.text_order n (some_mark t.text_order n lt) lt

    same : call_of_mark (called t lane l) (slice_get t.text_order n)
        ≡ call_of_mark t (slice_get t.text_order n)
    same =
        ap (call_of_mark (called t lane l)) found
        ∙ same_mark t lane l within (slice_index_or t.text_order n (some_mark t.text_order n lt))
        (known_at lines t h n (some_mark t.text_order n lt) lt)
        ∙ sym (ap (call_of_mark t) found)

new_call : (t : Trace) (lane : ℕ) (l : Line) → lane < length t.lane_scripts
    → call_of (called t lane l) lane (length (script_of t lane)) ≡ Some l
new_call t lane l within = ap (λ script. slice_get script (length (script_of t lane)))
    (get_or-set_same t.lane_scripts lane (script_of t lane ++ l ∷ []) [] within)
    ∙ get_last (script_of t lane) l

pub after_calling : (lines : ℕ) (t : Trace) (lane : ℕ) (l : Line) → IsLawfulSoFar lines t → lines + 1
    ≤ 1000000 → lane < 16 → IsLawfulCall t lane l → NamesAll (IsAmong t.text_order) l
    → IsTrue (are_published t.text_order (batches_in (Some l))) → work_size t + call_size t l ≤ 4000000
    → IsLawfulSoFar (lines + 1) (called t lane l)
after_calling lines t lane l h fewer small lawful names published fits = record {
  few = fewer;
  declared = h.declared;
  recordings = λ k r lt. recording_kept lines t (called t lane l) (grown t lane l)
      (slice_index_or t.recordings k r)
      (λ e. sym (published_same t.text_order lane (length (script_of t lane))
      (slice_index_or t.recordings k r).rec) ∙ e) (h.recordings k r lt);
  recordings_once = h.recordings_once;
  lane_count = length-set t.lane_scripts lane (script_of t lane ++ l ∷ []) ∙ h.lane_count;
  lanes = each_script (λ n script. All (IsLawfulCall (called t lane l) n) script) t.lane_scripts lane l within
      (λ n apart. old_lawful n)
      (All-push (IsLawfulCall (called t lane l) lane) (script_of t lane) l (old_lawful lane)
      (call_kept t (called t lane l) (grown t lane l) lane l lawful));
  recorder_count = h.recorder_count;
  once = h.once;
  of_trace = All-push (IsOfTrace (called t lane l)) t.text_order
      (Call lane (length (script_of t lane))) h.of_trace tt;
  by_lane = each_script (λ n script. calls_of (t.text_order ++ Call lane (length (script_of t lane)) ∷ []) n
      ≡ range_with_len 0 (length script)) t.lane_scripts lane l within
      (λ n apart. given_none (call_by n) t.text_order (Call lane (length (script_of t lane)))
      (ap (λ b. cond b (Some (length (script_of t lane))) None)
      (unequal lane n (λ same. apart (sym same)))) ∙ h.by_lane n)
      (given_one (call_by lane) t.text_order (Call lane (length (script_of t lane)))
      (length (script_of t lane)) (ap (λ b. cond b (Some (length (script_of t lane))) None)
      (eq-eqb lane lane refl))
      ∙ ap (λ ks. ks ++ length (script_of t lane) ∷ []) (h.by_lane lane)
      ∙ sym (range_more (length (script_of t lane)))
      ∙ ap (range_with_len 0) (sym (length_push (script_of t lane) l)));
  by_recorder = λ n. given_none (published_by t n) t.text_order (Call lane (length (script_of t lane))) refl
      ∙ h.by_recorder n;
  ended = after_more (called t lane l) t.text_order (Call lane (length (script_of t lane)))
      (still_after lines t lane l h within)
      (subst (λ (o : Option Line). IsTrue (are_published t.text_order (batches_in o)))
      (sym (new_call t lane l within)) published);
  named = each_script (λ n script. All (NamesAll (IsAmong (called t lane l).text_order)) script)
      t.lane_scripts lane l within
      (λ n apart. old_named n)
      (All-push (NamesAll (IsAmong (called t lane l).text_order)) (script_of t lane) l (old_named lane)
      (still_named l names));
  events = (let most = h.events in omega (arith, most, counted));
  size = (let n = whole_size in omega (arith, n, fits));
}
  where
    within : lane < length t.lane_scripts
    within = let count = h.lane_count in omega (arith, count, small)

    old_lawful : (n : ℕ) → All (IsLawfulCall (called t lane l) n) (script_of t n)
    old_lawful n k x lt = call_kept t (called t lane l) (grown t lane l) n
        (slice_index_or (script_of t n) k x) (h.lanes n k x lt)

    still_named : (x : Line) → NamesAll (IsAmong t.text_order) x
        → NamesAll (IsAmong (called t lane l).text_order) x
    still_named x = names_weaker (IsAmong t.text_order) (IsAmong (called t lane l).text_order)
        (λ k e. still_published t.text_order (Call lane (length (script_of t lane))) k e) x

    old_named : (n : ℕ) → All (NamesAll (IsAmong (called t lane l).text_order)) (script_of t n)
    old_named n k x lt = still_named (slice_index_or (script_of t n) k x) (h.named n k x lt)

    counted : event_count (called t lane l) ≡ event_count t + 1
    counted =
        let more = script_sum (λ (s : List Line). length s) t.lane_scripts lane l 1 within
        (length_push (script_of t lane) l) in
        omega (arith, more)

    as_large : (k : ℕ) → IsAsLarge t (called t lane l) k
    as_large k = found_size_same t (called t lane l) (grown t lane l) (recording_of t k)
        (found_lawful lines t k h.recordings)

    whole_size : work_size (called t lane l) ≡ work_size t + call_size t l
    whole_size =
        calls_same t (called t lane l) (with_event t.lane_scripts lane l)
        (λ n k x lt. names_all (IsAsLarge t (called t lane l)) as_large
        (slice_index_or (slice_index_or (with_event t.lane_scripts lane l) n []) k x))
        ∙ script_sum (λ (script : List Line). sum_by (call_size t) script) t.lane_scripts lane l
        (call_size t l) within (sum_by_push (call_size t) (script_of t lane) l)
