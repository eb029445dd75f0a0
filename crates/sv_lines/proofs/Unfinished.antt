-- A recorder is busy exactly where a recording is open.
use Rattle.std.proofs.Common.{◌≡◌, ℕ, zero, suc, ◌<◌, List, [], ◌∷◌, Bool, true, false, not, ◌&&◌, eqb}
use Rattle.std.proofs.Common.{refl, sym, ◌∙◌, ap, arith, length, eq-eqb}
use Rattle.std.proofs.lemmas.List.Folds.{list_any_none}
use Rattle.std.specs.List.{list_any}
use Rattle.std.specs.Prelude.{slice_index_or}
use Rattle.sv_model.specs.declared.line.Recording.{Recording}
use Rattle.sv_lines.specs.declared.taken.TakenLines.TheInside.{Inside}
use Rattle.sv_rules.specs.Ends.{is_unfinished}
use Rattle.sv_rules.specs.Places.{is_open_by, is_recording}
use Rattle.sv_rules.specs.Taken.{has_ended}
use Rattle.sv_lines.proofs.Kept.{IsSoundInside, trace_in}
use Rattle.sv_rules.proofs.Passing.{none_at}

alike : (a b : Bool) → (a ≡ false → b ≡ false) → (b ≡ false → a ≡ false) → a ≡ b
alike true true f g = refl
alike true false f g = g refl
alike false true f g = sym (f refl)
alike false false f g = refl

any_default : (xs : List Bool) (k : ℕ) (d : Bool) → k < length xs → slice_index_or xs k d
    ≡ slice_index_or xs k false
any_default [] k d lt = absurd (omega (arith, lt))
any_default (x ∷ xs) zero d lt = refl
any_default (x ∷ xs) (suc k) d lt = any_default xs k d (omega (arith, lt))

both_true : (a b : Bool) → a ≡ true → (a && b) ≡ false → b ≡ false
both_true a b e h = sym (ap (λ x. x && b) e) ∙ h

and_none : (a b : Bool) → b ≡ false → (a && b) ≡ false
and_none true b e = e
and_none false b e = refl

idle_ended : (x : Inside) → IsSoundInside x → list_any (λ (b : Bool). b) x.recordings.busy ≡ false
    → is_unfinished (trace_in x) ≡ false
unfolding is_unfinished is_recording
idle_ended x h e = list_any_none (λ (r : Recording). not (has_ended (trace_in x) r.rec))
    x.recordings.list.items (λ k d lt.
    let r : Recording = slice_index_or x.recordings.list.items k d in
    let idle = sym (h.recorded.busy (slice_index_or x.recordings.list.items k d).recorder)
    ∙ none_at (λ (b : Bool). b) x.recordings.busy e
    (slice_index_or x.recordings.list.items k d).recorder false
    (let count = h.recorded.recorder_count in let small = h.recorded.small k d lt in
    omega (arith, count, small)) in
    both_true (eqb (slice_index_or x.recordings.list.items k d).recorder
    (slice_index_or x.recordings.list.items k d).recorder)
    (not (has_ended (trace_in x) (slice_index_or x.recordings.list.items k d).rec))
    (eq-eqb (slice_index_or x.recordings.list.items k d).recorder
    (slice_index_or x.recordings.list.items k d).recorder refl)
    (none_at (is_open_by (trace_in x) (slice_index_or x.recordings.list.items k d).recorder)
    x.recordings.list.items idle k d lt))

ended_idle : (x : Inside) → IsSoundInside x → is_unfinished (trace_in x) ≡ false
    → list_any (λ (b : Bool). b) x.recordings.busy ≡ false
unfolding is_unfinished is_recording
ended_idle x h e = list_any_none (λ (b : Bool). b) x.recordings.busy (λ k d lt.
    any_default x.recordings.busy k d lt ∙ h.recorded.busy k
    ∙ list_any_none (is_open_by (trace_in x) k) x.recordings.list.items (λ i r within.
    and_none (eqb (slice_index_or x.recordings.list.items i r).recorder k)
    (not (has_ended (trace_in x) (slice_index_or x.recordings.list.items i r).rec))
    (none_at (λ (s : Recording). not (has_ended (trace_in x) s.rec)) x.recordings.list.items e i r within)))

pub unfinished_is : (x : Inside) → IsSoundInside x → list_any (λ (b : Bool). b) x.recordings.busy
    ≡ is_unfinished (trace_in x)
unfinished_is x h = alike (list_any (λ (b : Bool). b) x.recordings.busy) (is_unfinished (trace_in x))
    (idle_ended x h) (ended_idle x h)
