-- One more event of an actor: its place is one more, those of the others stand, and the longer list is a
-- history.
use Rattle.std.proofs.Common.{◌≡◌, ℕ, zero, suc, ◌+◌, ◌<◌, List, [], ◌∷◌, ◌++◌, true, false, cond, Option}
use Rattle.std.proofs.Common.{None, Some, refl, sym, ◌∙◌, ap, subst, arith, append-nil, length}
use Rattle.std.proofs.Common.{length-append, map, take, find, filter_map, slice_get, slice_index_or}
use Rattle.std.proofs.Common.{option_and_then, is_some, Contains, eq-eqb, get_or, ◌==◌, inl, inr}
use Rattle.std.proofs.Common.{if◌then◌else◌}
use Rattle.std.specs.Prelude.{◌⊎◌, slice_index, IsTrue}
use Rattle.std.specs.List.{cons_option, range_with_len}
use Rattle.std.proofs.lemmas.Bool.{ne_eqb, cases_eq}
use Rattle.std.proofs.lemmas.List.{take_more}
use Rattle.std.proofs.lemmas.List.Elements.{All-push, filter_map-append}
use Rattle.std.proofs.lemmas.List.FromFn.{length-range_with_len, get_or-range_with_len}
use Rattle.std.proofs.lemmas.Option.{slice_get-get_or, get_or_from_slice_get}
use Rattle.sv_model.specs.declared.line.Trace.{Trace}
use Rattle.sv_model.specs.declared.line.Recording.{Recording}
use Rattle.sv_model.specs.declared.line.Mark.{Mark}
use Rattle.sv_model.specs.declared.line.Mark.TheVariants.{Publish, Call}
use Rattle.sv_model.specs.Declarations.{recording_of}
use Rattle.sv_model.specs.History.{IsHistory, IsOfTrace, IsPrefix, call_by, calls_of, published_by}
use Rattle.sv_model.specs.History.{publications_of, lane_script, recorder_script}
use Rattle.sv_model.specs.Lawful.{IsLawful, HasRecorder}
use Rattle.sv_model.proofs.Lists.{given_none, given_one}
use Rattle.sv_device.specs.declared.who.Who.{Who}
use Rattle.sv_device.specs.declared.who.Who.TheVariants.{Lane, Recorder}
use Rattle.sv_device.specs.Actors.{events_of, mark_at, script_of}

-- a prefix with the next element is one
prefix_more : (xs ys : List ℕ) (y : ℕ) → IsPrefix xs ys → length xs < length ys → get_or ys (length xs) y
    ≡ y → IsPrefix (xs ++ y ∷ []) ys
prefix_more xs ys y pre lt at =
    ap (λ l. l ++ y ∷ []) pre
    ∙ ap (λ z. take (length xs) ys ++ z ∷ []) (sym at)
    ∙ sym (take_more ys (length xs) y lt)
    ∙ ap (λ n. take n ys) (sym (length-append xs (y ∷ [])))

-- The calls of lanes.

call_own : (h : List Mark) (lane place : ℕ) → calls_of (h ++ Call lane place ∷ []) lane ≡ calls_of h lane
    ++ place ∷ []
call_own h lane place = given_one (call_by lane) h (Call lane place) place
    (ap (λ b. cond b (Some place) None) (eq-eqb lane lane refl))

call_other : (h : List Mark) (lane place other : ℕ) → (lane ≡ other → ⊥)
    → calls_of (h ++ Call lane place ∷ []) other ≡ calls_of h other
call_other h lane place other ne = given_none (call_by other) h (Call lane place)
    (ap (λ b. cond b (Some place) None) (ne_eqb lane other ne))

no_call : (h : List Mark) (k lane : ℕ) → calls_of (h ++ Publish k ∷ []) lane ≡ calls_of h lane
no_call h k lane = given_none (call_by lane) h (Publish k) refl

place_of_call : (n p d : ℕ) → p < n → get_or (range_with_len 0 n) p d ≡ p
place_of_call n p d lt = let e : 0 + p ≡ p = omega arith in get_or-range_with_len 0 n p d lt ∙ e

-- The publications of recorders.

by_own : (o : Option Recording) (k recorder : ℕ) → HasRecorder recorder o
    → option_and_then (λ (r : Recording). if r.recorder == recorder then Some k else None) o ≡ Some k
by_own None k recorder h = absurd h
by_own (Some r) k recorder h = ap (λ b. cond b (Some k) None) (eq-eqb r.recorder recorder h)

by_other : (o : Option Recording) (k recorder other : ℕ) → HasRecorder recorder o → (recorder ≡ other → ⊥)
    → option_and_then (λ (r : Recording). if r.recorder == other then Some k else None) o ≡ None
by_other None k recorder other h ne = absurd h
by_other (Some r) k recorder other h ne = ap (λ b. cond b (Some k) None)
    (ne_eqb r.recorder other (λ e. ne (sym h ∙ e)))

publication_own : (t : Trace) (h : List Mark) (k recorder : ℕ) → HasRecorder recorder (recording_of t k)
    → publications_of t (h ++ Publish k ∷ []) recorder ≡ publications_of t h recorder ++ k ∷ []
publication_own t h k recorder of = given_one (published_by t recorder) h (Publish k) k
    (by_own (recording_of t k) k recorder of)

publication_other : (t : Trace) (h : List Mark) (k recorder other : ℕ)
    → HasRecorder recorder (recording_of t k) → (recorder ≡ other → ⊥)
    → publications_of t (h ++ Publish k ∷ []) other ≡ publications_of t h other
publication_other t h k recorder other of ne = given_none (published_by t other) h (Publish k)
    (by_other (recording_of t k) k recorder other of ne)

no_publication : (t : Trace) (h : List Mark) (lane place recorder : ℕ)
    → publications_of t (h ++ Call lane place ∷ []) recorder ≡ publications_of t h recorder
no_publication t h lane place recorder = given_none (published_by t recorder) h (Call lane place) refl

-- a script names recordings of its recorder
pub of_its_recorder : (t : Trace) (recorder place : ℕ) → IsLawful t → place
    < length (recorder_script t recorder) → HasRecorder recorder
    (recording_of t (slice_index (recorder_script t recorder) place))
of_its_recorder t recorder place lawful lt = (lawful.recorders recorder).own place 0 lt

found_some : (o : Option Recording) (recorder : ℕ) → HasRecorder recorder o → IsTrue (is_some o)
found_some None recorder h = absurd h
found_some (Some r) recorder h = refl

pub is_declared : (t : Trace) (recorder place : ℕ) → IsLawful t → place
    < length (recorder_script t recorder) → IsTrue
    (is_some (recording_of t (slice_index (recorder_script t recorder) place)))
is_declared t recorder place lawful lt = found_some
    (recording_of t (slice_index (recorder_script t recorder) place)) recorder
    (of_its_recorder t recorder place lawful lt)

-- what is found stands among the recordings
found_here : (r : Recording) (rs : List Recording) (k : ℕ)
    → (IsTrue (is_some (find (λ (x : Recording). x.rec == k) rs))
    → Contains (map (λ (x : Recording). x.rec) rs) k)
    → IsTrue (is_some (find (λ (x : Recording). x.rec == k) (r ∷ rs))) → (r.rec ≡ k) ⊎ (r.rec ≡ k → ⊥)
    → Contains (map (λ (x : Recording). x.rec) (r ∷ rs)) k
found_here r rs k later e (inl same) = (zero, omega arith, same)
found_here r rs k later e (inr ne) =
    let c = later (subst (λ b. IsTrue (is_some (cond b (Some r) (find (λ (x : Recording). x.rec == k) rs))))
    (ne_eqb r.rec k ne) e) in
    let lt = c.1 in
    (suc c.0, omega (arith, lt), c.2)

found_in : (rs : List Recording) (k : ℕ) → IsTrue (is_some (find (λ (x : Recording). x.rec == k) rs))
    → Contains (map (λ (x : Recording). x.rec) rs) k
found_in [] k e = absurd (let f : false ≡ true = e in cc)
found_in (r ∷ rs) k e = found_here r rs k (λ f. found_in rs k f) e (cases_eq r.rec k)

-- The longer list is a history.

lanes_more : (t : Trace) (h : List Mark) (lane place : ℕ) → IsHistory t h → length (calls_of h lane) ≡ place
    → place < length (lane_script t lane) → (other : ℕ)
    → IsPrefix (calls_of (h ++ Call lane place ∷ []) other) (lane_script t other)
lanes_more t h lane place is count lt other = by_case (cases_eq lane other)
  where
    long : length (lane_script t lane) ≡ length (slice_index_or t.lane_scripts lane [])
    long = length-range_with_len 0 (length (slice_index_or t.lane_scripts lane []))

    own : IsPrefix (calls_of h lane ++ place ∷ []) (lane_script t lane)
    own = prefix_more (calls_of h lane) (lane_script t lane) place (is.lanes lane)
        (omega (arith, count, lt)) (ap (λ p. get_or (lane_script t lane) p place) count
        ∙ place_of_call (length (slice_index_or t.lane_scripts lane [])) place place
        (omega (arith, lt, long)))

    by_case : (lane ≡ other) ⊎ (lane ≡ other → ⊥)
        → IsPrefix (calls_of (h ++ Call lane place ∷ []) other) (lane_script t other)
    by_case (inl same) = subst (λ k. IsPrefix (calls_of (h ++ Call lane place ∷ []) k) (lane_script t k))
        same (subst (λ xs. IsPrefix xs (lane_script t lane)) (sym (call_own h lane place)) own)
    by_case (inr ne) = subst (λ xs. IsPrefix xs (lane_script t other))
        (sym (call_other h lane place other ne)) (is.lanes other)

recorders_more : (t : Trace) (h : List Mark) (recorder place : ℕ) → IsLawful t → IsHistory t h
    → length (publications_of t h recorder) ≡ place → place < length (recorder_script t recorder)
    → (other : ℕ) → IsPrefix (publications_of t (h
    ++ Publish (slice_index (recorder_script t recorder) place) ∷ []) other) (recorder_script t other)
recorders_more t h recorder place lawful is count lt other = by_case (cases_eq recorder other)
  where
    k : ℕ
    k = slice_index (recorder_script t recorder) place

    of : HasRecorder recorder (recording_of t (slice_index (recorder_script t recorder) place))
    of = of_its_recorder t recorder place lawful lt

    own : IsPrefix (publications_of t h recorder ++ slice_index (recorder_script t recorder) place ∷ [])
        (recorder_script t recorder)
    own = prefix_more (publications_of t h recorder) (recorder_script t recorder)
        (slice_index (recorder_script t recorder) place) (is.recorders recorder) (omega (arith, count, lt))
        (get_or_from_slice_get (recorder_script t recorder) (length (publications_of t h recorder))
        (slice_index (recorder_script t recorder) place) (slice_index (recorder_script t recorder) place)
        (ap (λ p. slice_get (recorder_script t recorder) p) count
        ∙ slice_get-get_or (recorder_script t recorder) place 0 lt))

    by_case : (recorder ≡ other) ⊎ (recorder ≡ other → ⊥)
        → IsPrefix (publications_of t (h ++ Publish (slice_index (recorder_script t recorder) place) ∷ [])
        other) (recorder_script t other)
    by_case (inl same) = subst (λ j. IsPrefix (publications_of t
        (h ++ Publish (slice_index (recorder_script t recorder) place) ∷ []) j) (recorder_script t j)) same
        (subst (λ xs. IsPrefix xs (recorder_script t recorder))
        (sym (publication_own t h (slice_index (recorder_script t recorder) place) recorder of)) own)
    by_case (inr ne) = subst (λ xs. IsPrefix xs (recorder_script t other))
        (sym (publication_other t h (slice_index (recorder_script t recorder) place) recorder other of ne))
        (is.recorders other)

pub more_is_history : (t : Trace) (h : List Mark) (w : Who) (place : ℕ) → IsLawful t → IsHistory t h
    → length (events_of t w h) ≡ place → place < length (script_of t w)
    → IsHistory t (h ++ mark_at t w place ∷ [])
more_is_history t h (Lane lane) place lawful is count lt = record {
  of_trace = All-push (IsOfTrace t) h (Call lane place) is.of_trace tt;
  lanes = lanes_more t h lane place is count lt;
  recorders = λ other. subst (λ xs. IsPrefix xs (recorder_script t other))
      (sym (no_publication t h lane place other)) (is.recorders other);
}
more_is_history t h (Recorder recorder) place lawful is count lt = record {
  of_trace = All-push (IsOfTrace t) h (Publish (slice_index (recorder_script t recorder) place)) is.of_trace
      (found_in t.recordings (slice_index (recorder_script t recorder) place)
      (is_declared t recorder place lawful lt));
  lanes = λ other. subst (λ xs. IsPrefix xs (lane_script t other))
      (sym (no_call h (slice_index (recorder_script t recorder) place) other)) (is.lanes other);
  recorders = recorders_more t h recorder place lawful is count lt;
}

-- The numbers of events.

pub own_more : (t : Trace) (h : List Mark) (w : Who) (place : ℕ) → IsLawful t → place
    < length (script_of t w) → length (events_of t w (h ++ mark_at t w place ∷ []))
    ≡ length (events_of t w h) + 1
own_more t h (Lane lane) place lawful lt = ap length (call_own h lane place)
    ∙ length-append (calls_of h lane) (place ∷ [])
own_more t h (Recorder recorder) place lawful lt =
    let k = slice_index (recorder_script t recorder) place in
    ap length (publication_own t h k recorder (of_its_recorder t recorder place lawful lt))
    ∙ length-append (publications_of t h recorder) (k ∷ [])

pub other_same : (t : Trace) (h : List Mark) (w v : Who) (place : ℕ) → IsLawful t → place
    < length (script_of t w) → (w ≡ v → ⊥) → events_of t v (h ++ mark_at t w place ∷ []) ≡ events_of t v h
other_same t h (Lane lane) (Lane other) place lawful lt ne =
    call_other h lane place other (λ e. ne (ap Lane e))
other_same t h (Lane lane) (Recorder other) place lawful lt ne = no_publication t h lane place other
other_same t h (Recorder recorder) (Lane other) place lawful lt ne =
    no_call h (slice_index (recorder_script t recorder) place) other
other_same t h (Recorder recorder) (Recorder other) place lawful lt ne =
    publication_other t h (slice_index (recorder_script t recorder) place) recorder other
    (of_its_recorder t recorder place lawful lt) (λ e. ne (ap Recorder e))
