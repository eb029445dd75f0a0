-- The checker before any line.
use Rattle.std.proofs.Common.{◌≡◌, ℕ, zero, suc, ◌≤◌, List, [], Bool, true, false, Option, None, refl, sym}
use Rattle.std.proofs.Common.{◌∙◌, ap, subst, arith, length, replicate}
use Rattle.std.specs.BTreeMap.{BTreeMap, get, IsEmpty}
use Rattle.std.specs.Ordering.{nat_cmp}
use Rattle.std.specs.Prelude.{option_map, option_and_then, is_some, slice_get, slice_index_or}
use Rattle.sv_model.specs.declared.line.Line.{Line}
use Rattle.sv_model.specs.declared.line.Mark.{Mark}
use Rattle.sv_model.specs.declared.line.Recording.{Recording}
use Rattle.sv_model.specs.declared.line.SemKind.{SemKind}
use Rattle.sv_lines.specs.declared.extent.Extent.{Extent}
use Rattle.sv_lines.specs.declared.measure.PassSizes.{PassSizes}
use Rattle.sv_lines.specs.Extents.{as_resource}
use Rattle.sv_lines.specs.PassLines.{pass_said}
use Rattle.sv_rules.specs.Places.{is_recording}
use Rattle.sv_lines.specs.Sound.{IsSound, trace_from}
use Rattle.sv_rules.specs.Taken.{has_ended}
use Rattle.sv_rules.specs.Trace.{no_lines}

no_entry : {V : Type 0} (table : BTreeMap ℕ V) → IsEmpty table → (n : ℕ) → get nat_cmp table n ≡ None
no_entry table e n = grind (arith, e)

all_alike : {A : Type 0} (a : A) (m n : ℕ) → slice_index_or (replicate m a) n a ≡ a
all_alike a zero n = refl
all_alike a (suc m) zero = refl
all_alike a (suc m) (suc n) = all_alike a m n

nothing_at : (xs : List Bool) → xs ≡ replicate 16 false → (n : ℕ) → slice_index_or xs n false ≡ false
nothing_at xs e n = ap (λ (ys : List Bool). slice_index_or ys n false) e ∙ all_alike false 16 n

pub nothing_sound : (q : BTreeMap ℕ (ℕ × ℕ)) (r : BTreeMap ℕ Extent) (s : BTreeMap ℕ SemKind)
    (e : BTreeMap ℕ ℕ) (f : BTreeMap ℕ Bool) (p : BTreeMap ℕ ℕ) (sizes : BTreeMap ℕ PassSizes)
    (places : BTreeMap ℕ ℕ) (busy : List Bool)
    → IsEmpty q → IsEmpty r → IsEmpty s → IsEmpty e → IsEmpty f → IsEmpty p → IsEmpty places → busy
    ≡ replicate 16 false
    → IsSound 0 no_lines 0 q r s e f p sizes [] places busy
unfolding has_ended is_recording
nothing_sound q r s e f p sizes places busy hq hr hs he hf hp hplaces hbusy = record {
  declared = record {
    queues = λ n. no_entry q hq n;
    resources = λ n. ap (option_map as_resource) (no_entry r hr n);
    semaphores = λ n. no_entry s hs n;
    events = λ n. no_entry e he n;
    fences = λ n. no_entry f hf n;
    passes = λ n. ap (λ (o : Option ℕ). option_and_then pass_said
        (option_and_then (slice_get no_lines.passes) o)) (no_entry p hp n);
    passes_known = λ n. ap is_some (no_entry p hp n);
  };
  recorded = record {
    known = refl;
    places = λ n. ap (λ (o : Option ℕ). option_and_then (slice_get no_lines.recordings) o)
        (no_entry places hplaces n);
    places_known = λ n. ap is_some (no_entry places hplaces n);
    unknown = λ n h. refl;
    recorder_count = ap length hbusy;
    busy = nothing_at busy hbusy;
    own = λ k d lt. absurd (omega (arith, lt));
    small = λ k d lt. absurd (omega (arith, lt));
    lone = λ i j d lt within a b. absurd (omega (arith, lt));
  };
  steady = record {
    scopes = λ k d lt. absurd (omega (arith, lt));
    steps = λ k d lt u keeps. absurd (omega (arith, lt));
    calls = λ u keeps. refl;
    sizes = λ n declared. absurd (let h : false ≡ true = declared in cc);
  };
  size = refl;
  few = omega arith;
  lanes = refl;
  recorders = refl;
  short = λ lane. subst (λ (calls : List Line). length calls ≤ 0) (sym (all_alike [] 16 lane)) (omega arith);
}

pub trace_is : (qs rs ss es fs ps : List Line) (recordings : List Recording) (lanes : List (List Line))
    (recorders : List (List ℕ)) (order : List Mark)
    → qs ≡ [] → rs ≡ [] → ss ≡ [] → es ≡ [] → fs ≡ [] → ps ≡ [] → recordings ≡ [] → lanes ≡ replicate 16 []
    → recorders ≡ replicate 16 [] → order ≡ []
    → trace_from qs rs ss es fs ps recordings lanes recorders order ≡ no_lines
trace_is qs rs ss es fs ps recordings lanes recorders order a b c d e f g h i j =
    ap (λ xs. trace_from xs rs ss es fs ps recordings lanes recorders order) a
    ∙ ap (λ xs. trace_from [] xs ss es fs ps recordings lanes recorders order) b
    ∙ ap (λ xs. trace_from [] [] xs es fs ps recordings lanes recorders order) c
    ∙ ap (λ xs. trace_from [] [] [] xs fs ps recordings lanes recorders order) d
    ∙ ap (λ xs. trace_from [] [] [] [] xs ps recordings lanes recorders order) e
    ∙ ap (λ xs. trace_from [] [] [] [] [] xs recordings lanes recorders order) f
    ∙ ap (λ xs. trace_from [] [] [] [] [] [] xs lanes recorders order) g
    ∙ ap (λ xs. trace_from [] [] [] [] [] [] [] xs recorders order) h
    ∙ ap (λ xs. trace_from [] [] [] [] [] [] [] (replicate 16 []) xs order) i
    ∙ ap (λ xs. trace_from [] [] [] [] [] [] [] (replicate 16 []) (replicate 16 []) xs) j
