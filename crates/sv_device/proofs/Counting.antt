-- The counts of the actors, and when a history is whole.
use Rattle.std.proofs.Common.{◌≡◌, ℕ, zero, suc, ◌+◌, ◌<◌, ◌≤◌, List, [], ◌∷◌, ◌++◌, Some, refl, sym, ◌∙◌}
use Rattle.std.proofs.Common.{ap, subst, arith, length, set, slice_get, slice_index_or, inl, inr}
use Rattle.std.proofs.Common.{get_or-set_same, get_or-set_other}
use Rattle.std.specs.Prelude.{◌⊎◌, slice_index, replicate}
use Rattle.std.proofs.lemmas.Bool.{cases_eq}
use Rattle.std.proofs.lemmas.List.{length-take, take_all}
use Rattle.std.proofs.lemmas.List.FromFn.{length-range_with_len}
use Rattle.std.proofs.lemmas.Option.{same_Some}
use Rattle.sv_model.specs.declared.line.Trace.{Trace}
use Rattle.sv_model.specs.declared.line.Mark.{Mark}
use Rattle.sv_model.specs.History.{IsHistory, IsWhole, IsPrefix, calls_of, publications_of, lane_script}
use Rattle.sv_model.specs.History.{recorder_script}
use Rattle.sv_model.specs.Lawful.{IsLawful}
use Rattle.sv_device.specs.declared.who.Who.{Who}
use Rattle.sv_device.specs.declared.who.Who.TheVariants.{Lane, Recorder}
use Rattle.sv_device.specs.Actors.{actors_of, events_of, mark_at, script_of}
use Rattle.sv_device.specs.Devices.{Counts}
use Rattle.sv_device.proofs.Seats.{lane_index, one_index, recorder_index}
use Rattle.sv_device.proofs.Steps.{other_same, own_more}

-- no event, no count
zeros : (n a : ℕ) → slice_index (replicate n 0) a ≡ 0
zeros zero a = refl
zeros (suc n) zero = refl
zeros (suc n) (suc a) = zeros n a

none_of : (t : Trace) (w : Who) → length (events_of t w []) ≡ 0
none_of t (Lane lane) = refl
none_of t (Recorder recorder) = refl

pub counts_none : (t : Trace) → Counts t (replicate 32 0) []
counts_none t index who at = zeros 32 index ∙ sym (none_of t who)

-- one more event of an actor
pub counts_more : (t : Trace) (counts : List ℕ) (h : List Mark) (i : ℕ) (w : Who) (place : ℕ) → IsLawful t
    → Counts t counts h → slice_get (actors_of t) i ≡ Some w → place < length (script_of t w) → i
    < length counts → slice_index counts i ≡ place
    → Counts t (set counts i (place + 1)) (h ++ mark_at t w place ∷ [])
counts_more t counts h i w place lawful was at lt inside is j v there = by_case (cases_eq j i)
  where
    mine : v ≡ w → j ≡ i → slice_index (set counts i (place + 1)) j
        ≡ length (events_of t v (h ++ mark_at t w place ∷ []))
    mine same here =
        let a : slice_index (set counts i (place + 1)) j ≡ place + 1 =
        ap (λ k. slice_index (set counts i (place + 1)) k) here
        ∙ get_or-set_same counts i (place + 1) 0 inside in
        let b = own_more t h w place lawful lt in
        let c : place ≡ length (events_of t w h) = sym is ∙ was i w at in
        subst (λ (u : Who). slice_index (set counts i (place + 1)) j
        ≡ length (events_of t u (h ++ mark_at t w place ∷ []))) (sym same) (omega (arith, a, b, c))

    by_case : (j ≡ i) ⊎ (j ≡ i → ⊥) → slice_index (set counts i (place + 1)) j
        ≡ length (events_of t v (h ++ mark_at t w place ∷ []))
    by_case (inl here) = mine (same_Some v w (sym there ∙ ap (λ k. slice_get (actors_of t) k) here ∙ at)) here
    by_case (inr ne) =
        let apart : w ≡ v → ⊥ = λ e. ne (one_index t j i v there (at ∙ ap Some e)) in
        get_or-set_other counts i j (place + 1) 0 ne ∙ was j v there
        ∙ ap length (sym (other_same t h w v place lawful lt apart))

-- Whole histories.

-- a prefix of that length is the whole
whole_prefix : (xs ys : List ℕ) → IsPrefix xs ys → length xs ≡ length ys → xs ≡ ys
whole_prefix xs ys pre long = pre ∙ take_all (length xs) ys (omega (arith, long))

no_longer : (xs ys : List ℕ) → IsPrefix xs ys → length xs ≤ length ys
no_longer xs ys pre = let e = ap length pre in let f = length-take (length xs) ys in omega (arith, e, f)

lane_whole : (t : Trace) (h : List Mark) → IsHistory t h
    → ((i : ℕ) (w : Who) → slice_get (actors_of t) i ≡ Some w → length (events_of t w h)
    ≡ length (script_of t w)) → (lane : ℕ) → calls_of h lane ≡ lane_script t lane
lane_whole t h is each lane = whole_prefix (calls_of h lane) (lane_script t lane) (is.lanes lane)
    (by_case (cases_eq (length (slice_index_or t.lane_scripts lane [])) 0))
  where
    long : length (lane_script t lane) ≡ length (slice_index_or t.lane_scripts lane [])
    long = length-range_with_len 0 (length (slice_index_or t.lane_scripts lane []))

    by_case : (length (slice_index_or t.lane_scripts lane []) ≡ 0)
        ⊎ (length (slice_index_or t.lane_scripts lane []) ≡ 0 → ⊥) → length (calls_of h lane)
        ≡ length (lane_script t lane)
    by_case (inl none) = let le = no_longer (calls_of h lane) (lane_script t lane) (is.lanes lane) in
        omega (arith, le, long, none)
    by_case (inr some) = let s = lane_index t lane (omega (arith, some)) in each s.0 (Lane lane) s.1

recorder_whole : (t : Trace) (h : List Mark) → IsHistory t h
    → ((i : ℕ) (w : Who) → slice_get (actors_of t) i ≡ Some w → length (events_of t w h)
    ≡ length (script_of t w)) → (recorder : ℕ) → publications_of t h recorder ≡ recorder_script t recorder
recorder_whole t h is each recorder = whole_prefix (publications_of t h recorder)
    (recorder_script t recorder) (is.recorders recorder)
    (by_case (cases_eq (length (recorder_script t recorder)) 0))
  where
    by_case : (length (recorder_script t recorder) ≡ 0) ⊎ (length (recorder_script t recorder) ≡ 0 → ⊥)
        → length (publications_of t h recorder) ≡ length (recorder_script t recorder)
    by_case (inl none) = let le = no_longer (publications_of t h recorder) (recorder_script t recorder)
        (is.recorders recorder) in omega (arith, le, none)
    by_case (inr some) = let s = recorder_index t recorder (omega (arith, some)) in
        each s.0 (Recorder recorder) s.1

-- where as many events of each actor stand in it as its script has, the history is whole
pub whole_all : (t : Trace) (h : List Mark) → IsHistory t h
    → ((i : ℕ) (w : Who) → slice_get (actors_of t) i ≡ Some w → length (events_of t w h)
    ≡ length (script_of t w)) → IsWhole t h
whole_all t h is each = record {
  of_trace = is.of_trace;
  lanes = lane_whole t h is each;
  recorders = recorder_whole t h is each;
}
