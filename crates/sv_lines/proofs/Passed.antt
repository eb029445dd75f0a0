-- The checker is sound after one more render pass.
use Rattle.std.proofs.Common.{◌≡◌, ℕ, ◌+◌, ◌<◌, List, [], ◌∷◌, ◌++◌, Bool, true, false, eqb, cond, Option}
use Rattle.std.proofs.Common.{None, Some, refl, sym, ◌∙◌, ap, subst, arith, length, sum_by, inl, inr}
use Rattle.std.proofs.Common.{eq-eqb}
use Rattle.std.proofs.lemmas.Bool.Decides.{eqb_tells}
use Rattle.std.proofs.lemmas.Option.{get_or_from_slice_get, option_and_then_some, slice_get_within}
use Rattle.std.specs.BTreeMap.{BTreeMap, get}
use Rattle.std.specs.Ordering.{nat_cmp}
use Rattle.std.specs.List.{cons_option}
use Rattle.std.specs.Prelude.{is_some, option_and_then, reverse, slice_get, slice_index_or, unwrap_or}
use Rattle.std.specs.Option.{option_or}
use Rattle.sv_model.specs.declared.line.Line.{Line}
use Rattle.sv_model.specs.declared.line.Line.TheVariants as line
use Rattle.sv_model.specs.declared.line.PassAttachment.{PassAttachment}
use Rattle.sv_model.specs.declared.line.PassDep.{PassDep}
use Rattle.sv_model.specs.declared.line.PassUse.{PassUse}
use Rattle.sv_model.specs.declared.line.Recording.{Recording}
use Rattle.sv_model.specs.declared.line.Trace.{Trace}
use Rattle.sv_model.specs.Recordings.{Scope, Outside, InRendering, InPass, scope_after, lowered, steps_in}
use Rattle.sv_model.specs.Declarations.{Pass, empty_pass, is_pass, pass_of, recording_of, said, says_pass}
use Rattle.sv_model.specs.Size.{recording_size, step_size, work_size, capped}
use Rattle.sv_lines.specs.declared.taken.TakenLines.TheInside.{Inside}
use Rattle.sv_lines.specs.declared.measure.PassSizes.{PassSizes}
use Rattle.sv_lines.specs.Measures.{HasMeasure, IsMeasureOf}
use Rattle.sv_rules.specs.Named.{is_new_pass}
use Rattle.sv_lines.specs.PassLines.{pass_said}
use Rattle.sv_rules.specs.Places.{is_recording}
use Rattle.sv_lines.specs.Sound.{IsSound, IsFitScope, IsSteady, KeepsPasses, known_of, passes_only}
use Rattle.sv_lines.specs.Sound.{sized_part, trace_from}
use Rattle.sv_lines.specs.Tables.{Puts, IsAsBefore}
use Rattle.sv_rules.specs.Taken.{has_ended}
use Rattle.sv_pass.specs.Begun.{pass_in}
use Rattle.sv_lines.proofs.Beginning.{get_before, get_more}
use Rattle.sv_lines.proofs.Declared.{not_some_is, number_is}
use Rattle.sv_model.proofs.Said.{said_more}
use Rattle.sv_lines.proofs.Everywhere.{map_same}
use Rattle.sv_lines.proofs.Kept.{IsSoundInside, trace_in}

-- The line, and what it says.

abbrev pub parts : List PassAttachment → List (List PassUse) → List PassDep → Pass
parts attachments subpasses deps = record { attachments = attachments; subpasses = subpasses; deps = deps }

pub own_pass : (n : ℕ) (a : List PassAttachment) (s : List (List PassUse)) (d : List PassDep)
    → pass_in (line.RenderPass n a s d ∷ []) n ≡ parts a s d
own_pass n a s d = ap (λ b. unwrap_or (slice_get (cons_option (cond b (Some (parts a s d)) None) []) 0)
    empty_pass) (eq-eqb n n refl)

-- the trace with other passes
abbrev pub passed_in : Inside → List Line → Trace
passed_in x lines = trace_from x.queues.lines.items x.resources.lines.items x.semaphores.lines.items
    x.events.lines.items x.fences.lines.items lines x.recordings.list.items x.scripts.lanes
    x.scripts.recorders x.scripts.order.items

abbrev pub lines_with : Inside → Line → List Line
lines_with x l = x.passes.lines.items ++ l ∷ []

-- a pass that is declared stays as it is
stays : (x : Inside) (l : Line) (n : ℕ) → is_pass (trace_in x) n ≡ true
    → said (says_pass n) (lines_with x l) ≡ said (says_pass n) x.passes.lines.items
stays x l n e = said_more (says_pass n) x.passes.lines.items l
    ∙ first_stays (said (says_pass n) x.passes.lines.items) (says_pass n l) e
  where
    first_stays : (o next : Option Pass) → is_some o ≡ true → option_or o next ≡ o
    first_stays None next e = absurd (let h : false ≡ true = e in cc)
    first_stays (Some p) next e = refl

keeps_after : (x : Inside) (l : Line) (u : Trace) → u.passes ≡ lines_with x l → KeepsPasses (trace_in x) u
keeps_after x l u e n declared = ap (λ lines. unwrap_or (said (says_pass n) lines) empty_pass) e
    ∙ ap (λ o. unwrap_or o empty_pass) (stays x l n declared)

still_pass : (x : Inside) (l : Line) (n : ℕ) → is_pass (trace_in x) n ≡ true
    → is_pass (passed_in x (lines_with x l)) n ≡ true
still_pass x l n e = ap is_some (stays x l n e) ∙ e

keeps_both : (x : Inside) (l : Line) (u : Trace) → KeepsPasses (passed_in x (lines_with x l)) u
    → KeepsPasses (trace_in x) u
keeps_both x l u keeps n e = keeps n (still_pass x l n e)
    ∙ keeps_after x l (passed_in x (lines_with x l)) refl n e

-- Tables.

pass_new : (x : Inside) (n : ℕ) → is_new_pass (trace_in x) n ≡ true
    → said (says_pass n) x.passes.lines.items ≡ None
unfolding is_new_pass
pass_new x n e = not_some_is (said (says_pass n) x.passes.lines.items) e

at_before : (lines : List Line) (l : Line) (i : ℕ) (p : Pass) (o : Option Line) → slice_get lines i ≡ o
    → option_and_then pass_said o ≡ Some p → option_and_then pass_said (slice_get (lines ++ l ∷ []) i)
    ≡ Some p
at_before lines l i p None at e = absurd (let h : None ≡ Some p = e in cc)
at_before lines l i p (Some y) at e = ap (option_and_then pass_said) (get_before lines l y i at) ∙ e

place_step : (lines : List Line) (l : Line) (o : Option ℕ) (found : Option Pass)
    → option_and_then pass_said (option_and_then (slice_get lines) o) ≡ found → is_some o ≡ is_some found
    → option_and_then pass_said (option_and_then (slice_get (lines ++ l ∷ [])) o) ≡ option_or found None
place_step lines l None None e k = refl
place_step lines l None (Some p) e k = absurd (let h : false ≡ true = k in cc)
place_step lines l (Some i) None e k = absurd (let h : true ≡ false = k in cc)
place_step lines l (Some i) (Some p) e k = at_before lines l i p (slice_get lines i) refl e

pass_more : (x : Inside) (n k : ℕ) (b : Bool) (a : List PassAttachment) (s : List (List PassUse))
    (d : List PassDep) → IsSoundInside x → said (says_pass n) x.passes.lines.items ≡ None
    → (b ≡ true → n ≡ k)
    → option_and_then pass_said (option_and_then (slice_get (lines_with x (line.RenderPass n a s d)))
    (cond b (Some (length x.passes.lines.items)) (get nat_cmp x.passes.table k)))
    ≡ option_or (said (says_pass k) x.passes.lines.items) (cond b (Some (parts a s d)) None)
pass_more x n k true a s d h new same =
    ap (option_and_then pass_said) (get_more x.passes.lines.items (line.RenderPass n a s d))
    ∙ sym (ap (λ o. option_or o (Some (parts a s d)))
    (ap (λ m. said (says_pass m) x.passes.lines.items) (sym (same refl)) ∙ new))
pass_more x n k false a s d h new same =
    place_step x.passes.lines.items (line.RenderPass n a s d) (get nat_cmp x.passes.table k)
    (said (says_pass k) x.passes.lines.items) (h.declared.passes k) (h.declared.passes_known k)

known_more : (b : Bool) (v : ℕ) (p : Pass) (old : Option ℕ) (found : Option Pass) → is_some old
    ≡ is_some found → is_some (cond b (Some v) old) ≡ is_some (option_or found (cond b (Some p) None))
known_more true v p old None e = refl
known_more true v p old (Some y) e = refl
known_more false v p old None e = e
known_more false v p old (Some y) e = e

-- the sizes of declared passes, of which one is new
sized_step : (p : Pass) (m : PassSizes) (b : Bool) (found : Option Pass) (old : Option PassSizes)
    → IsMeasureOf p m → (b ≡ true → found ≡ None)
    → (is_some found ≡ true → HasMeasure (unwrap_or found empty_pass) old)
    → is_some (option_or found (cond b (Some p) None)) ≡ true
    → HasMeasure (unwrap_or (option_or found (cond b (Some p) None)) empty_pass) (cond b (Some m) old)
sized_step p m true None old measure new before e = measure
sized_step p m true (Some y) old measure new before e = absurd (let h : Some y ≡ None = new refl in cc)
sized_step p m false None old measure new before e = absurd (let h : false ≡ true = e in cc)
sized_step p m false (Some y) old measure new before e = before refl

sizes_after : (x : Inside) (n : ℕ) (a : List PassAttachment) (s : List (List PassUse)) (d : List PassDep)
    (m : PassSizes) (sizes : BTreeMap ℕ PassSizes) → IsSoundInside x
    → said (says_pass n) x.passes.lines.items ≡ None
    → Puts x.sizes sizes n m → IsMeasureOf (parts a s d) m → (k : ℕ)
    → is_pass (passed_in x (lines_with x (line.RenderPass n a s d))) k ≡ true
    → HasMeasure (pass_of (passed_in x (lines_with x (line.RenderPass n a s d))) k) (get nat_cmp sizes k)
sizes_after x n a s d m sizes h new puts measure k e =
    let more = said_more (says_pass k) x.passes.lines.items (line.RenderPass n a s d) in
    subst (λ (o : Option PassSizes). HasMeasure (pass_of
    (passed_in x (lines_with x (line.RenderPass n a s d))) k) o) (sym (puts k))
    (subst (λ (o : Option Pass). HasMeasure (unwrap_or o empty_pass)
    (cond (eqb n k) (Some m) (get nat_cmp x.sizes k))) (sym more)
    (sized_step (parts a s d) m (eqb n k) (said (says_pass k) x.passes.lines.items)
    (get nat_cmp x.sizes k) measure
    (λ same. ap (λ j. said (says_pass j) x.passes.lines.items) (sym (number_is n k same)) ∙ new)
    (h.steady.sizes k) (sym (ap is_some more) ∙ e)))

-- sizes of one more pass, which is not declared yet
sizes_put : (x : Inside) (n : ℕ) (m : PassSizes) (sizes : BTreeMap ℕ PassSizes) → IsSoundInside x
    → said (says_pass n) x.passes.lines.items ≡ None → Puts x.sizes sizes n m
    → (k : ℕ) → is_pass (trace_in x) k ≡ true → HasMeasure (pass_of (trace_in x) k) (get nat_cmp sizes k)
sizes_put x n m sizes h new puts k e =
    subst (λ (o : Option PassSizes). HasMeasure (pass_of (trace_in x) k) o)
    (sym (puts k ∙ ap (λ b. cond b (Some m) (get nat_cmp x.sizes k)) apart)) (h.steady.sizes k e)
  where
    apart : eqb n k ≡ false
    apart = elim (eqb_tells n k) [
      | inl same ↦ absurd (let both : true ≡ false = sym e
          ∙ ap is_some (ap (λ j. said (says_pass j) x.passes.lines.items) (sym same.1) ∙ new) in cc)
      | inr other ↦ other.0
    ]

-- Recordings.

-- what holds of the recording at each place holds of one that is found
each_found : (P : Recording → Type 0) (x : Inside) → IsSoundInside x
    → ((k : ℕ) (d : Recording) → k < length x.recordings.list.items
    → P (slice_index_or x.recordings.list.items k d))
    → (n : ℕ) (r : Recording) → recording_of (trace_in x) n ≡ Some r → P r
each_found P x h each n r found =
    option_and_then_some (slice_get x.recordings.list.items) (get nat_cmp x.recordings.places n) r
    (h.recorded.places n ∙ found)
    (λ i place at. subst P (get_or_from_slice_get x.recordings.list.items i r r at)
    (each i r (slice_get_within x.recordings.list.items i r at)))

abbrev Rests : Inside → Recording → Type 0
Rests x r = (u : Trace) → KeepsPasses (trace_in x) u → lowered u r (reverse r.commands)
    ≡ lowered (passes_only (trace_in x)) r (reverse r.commands)

size_where : (x : Inside) (l : Line) → IsSoundInside x → (k : ℕ) (o : Option Recording)
    → recording_of (trace_in x) k ≡ o
    → sum_by step_size (steps_in (sized_part (passed_in x (lines_with x l))) o)
    ≡ sum_by step_size (steps_in (sized_part (trace_in x)) o)
size_where x l h k None found = refl
size_where x l h k (Some r) found =
    let rests = each_found (Rests x) x h (λ i d lt. h.steady.steps i d lt) k r found in
    ap (sum_by step_size) (rests (sized_part (passed_in x (lines_with x l)))
    (keeps_after x l (sized_part (passed_in x (lines_with x l))) refl)
    ∙ sym (rests (sized_part (trace_in x)) (λ n e. refl)))

size_same : (x : Inside) (l : Line) → IsSoundInside x → (k : ℕ)
    → recording_size (sized_part (passed_in x (lines_with x l))) k
    ≡ recording_size (sized_part (trace_in x)) k
size_same x l h k = size_where x l h k (recording_of (trace_in x) k) refl

work_kept : (x : Inside) (l : Line) → IsSoundInside x
    → work_size (sized_part (passed_in x (lines_with x l))) ≡ work_size (sized_part (trace_in x))
work_kept x l h = h.steady.calls (sized_part (passed_in x (lines_with x l))) (λ k e. size_same x l h k)

known_same : (x : Inside) (l : Line) (r : Recording) → Rests x r → known_of (trace_in x) r
    ≡ known_of (passed_in x (lines_with x l)) r
unfolding has_ended
known_same x l r rests = ap (λ steps. record (known_of (trace_in x) r)
    { size = capped (sum_by step_size steps) })
    (sym (rests (passes_only (passed_in x (lines_with x l)))
    (keeps_after x l (passes_only (passed_in x (lines_with x l))) refl)))

fits_still : (x : Inside) (l : Line) (scope : Scope) → IsFitScope (trace_in x) scope
    → IsFitScope (passed_in x (lines_with x l)) scope
fits_still x l Outside fit = tt
fits_still x l (InRendering attachments) fit = tt
fits_still x l (InPass pass views i) fit = (
  still_pass x l pass fit.0,
  fit.1 ∙ ap (λ (p : Pass). length p.attachments)
      (sym (keeps_after x l (passed_in x (lines_with x l)) refl pass fit.0)),
)

-- no recording, for a default
abbrev no_recording : Recording
no_recording = record { rec = 0; recorder = 0; family = 0; commands = [] }

-- Sound.

abbrev pub Passed : Inside → ℕ → List Line → BTreeMap ℕ ℕ → BTreeMap ℕ PassSizes → Type 0
Passed x lines passes table sizes = IsSound lines
    (passed_in x passes) x.size x.queues.table x.resources.table x.semaphores.table x.events.table
    x.fences.table table sizes x.recordings.known.items x.recordings.places x.recordings.busy

steady_passed : (x : Inside) (n : ℕ) (a : List PassAttachment) (s : List (List PassUse)) (d : List PassDep)
    (m : PassSizes) (sizes : BTreeMap ℕ PassSizes) → IsSoundInside x
    → said (says_pass n) x.passes.lines.items ≡ None → Puts x.sizes sizes n m → IsMeasureOf (parts a s d) m
    → IsSteady (passed_in x (lines_with x (line.RenderPass n a s d))) sizes
unfolding has_ended
steady_passed x n a s d m sizes h new puts measure = record {
  scopes = λ k y lt. fits_still x (line.RenderPass n a s d)
      (scope_after (reverse (slice_index_or x.recordings.list.items k y).commands))
      (h.steady.scopes k y lt);
  steps = λ k y lt u keeps. h.steady.steps k y lt u (keeps_both x (line.RenderPass n a s d) u keeps)
      ∙ sym (h.steady.steps k y lt (passes_only (passed_in x (lines_with x (line.RenderPass n a s d))))
      (keeps_after x (line.RenderPass n a s d) (passes_only
      (passed_in x (lines_with x (line.RenderPass n a s d)))) refl));
  calls = λ u keeps. h.steady.calls u (λ k e. keeps k e ∙ size_same x (line.RenderPass n a s d) h k)
      ∙ sym (work_kept x (line.RenderPass n a s d) h);
  sizes = sizes_after x n a s d m sizes h new puts measure;
}

pass_sound : (x : Inside) (n : ℕ) (a : List PassAttachment) (s : List (List PassUse)) (d : List PassDep)
    (m : PassSizes) (table : BTreeMap ℕ ℕ) (sizes : BTreeMap ℕ PassSizes) → IsSoundInside x → x.lines
    < 1000000
    → said (says_pass n) x.passes.lines.items ≡ None
    → Puts x.passes.table table n (length x.passes.lines.items) → Puts x.sizes sizes n m
    → IsMeasureOf (parts a s d) m
    → Passed x (x.lines + 1) (lines_with x (line.RenderPass n a s d)) table sizes
unfolding has_ended is_recording
pass_sound x n a s d m table sizes h fewer new puts sized measure = record {
  declared = record {
    queues = h.declared.queues;
    resources = h.declared.resources;
    semaphores = h.declared.semaphores;
    events = h.declared.events;
    fences = h.declared.fences;
    passes = λ k. ap (λ o. option_and_then pass_said
        (option_and_then (slice_get (lines_with x (line.RenderPass n a s d))) o)) (puts k)
        ∙ pass_more x n k (eqb n k) a s d h new (number_is n k)
        ∙ sym (said_more (says_pass k) x.passes.lines.items (line.RenderPass n a s d));
    passes_known = λ k. ap is_some (puts k)
        ∙ known_more (eqb n k) (length x.passes.lines.items) (parts a s d) (get nat_cmp x.passes.table k)
        (said (says_pass k) x.passes.lines.items) (h.declared.passes_known k)
        ∙ sym (ap is_some (said_more (says_pass k) x.passes.lines.items (line.RenderPass n a s d)));
  };
  recorded = record {
    known = h.recorded.known ∙ map_same (known_of (trace_in x))
        (known_of (passed_in x (lines_with x (line.RenderPass n a s d)))) x.recordings.list.items no_recording
        (λ k lt. known_same x (line.RenderPass n a s d)
        (slice_index_or x.recordings.list.items k no_recording) (h.steady.steps k no_recording lt));
    places = h.recorded.places;
    places_known = h.recorded.places_known;
    unknown = h.recorded.unknown;
    recorder_count = h.recorded.recorder_count;
    busy = h.recorded.busy;
    own = h.recorded.own;
    small = h.recorded.small;
    lone = h.recorded.lone;
  };
  steady = steady_passed x n a s d m sizes h new sized measure;
  size = h.size ∙ ap capped (sym (work_kept x (line.RenderPass n a s d) h));
  few = omega (arith, fewer);
  lanes = h.lanes;
  recorders = h.recorders;
  short = λ lane. let before = h.short lane in omega (arith, before);
}

pub pass_kept : (x : Inside) (lines : List Line) (n : ℕ) (a : List PassAttachment) (s : List (List PassUse))
    (d : List PassDep) (m : PassSizes) (table : BTreeMap ℕ ℕ) (sizes : BTreeMap ℕ PassSizes)
    → IsSoundInside x → x.lines < 1000000
    → is_new_pass (trace_in x) n ≡ true → lines ≡ lines_with x (line.RenderPass n a s d)
    → Puts x.passes.table table n (length x.passes.lines.items) → Puts x.sizes sizes n m
    → IsMeasureOf (pass_in (line.RenderPass n a s d ∷ []) n) m
    → Passed x (x.lines + 1) lines table sizes
pass_kept x lines n a s d m table sizes h fewer new same puts sized measure =
    subst (λ (ls : List Line). Passed x (x.lines + 1) ls table sizes) (sym same)
    (pass_sound x n a s d m table sizes h fewer (pass_new x n new) puts sized
    (subst (λ (p : Pass). IsMeasureOf p m) (own_pass n a s d) measure))

-- with tables of passes and sizes that say the same of what is declared
pub passed_again : (x : Inside) (lines : List Line) (table : BTreeMap ℕ ℕ) (sizes : BTreeMap ℕ PassSizes)
    → IsSoundInside x → lines ≡ x.passes.lines.items → IsAsBefore x.passes.table table
    → ((k : ℕ) → is_pass (trace_in x) k ≡ true → HasMeasure (pass_of (trace_in x) k) (get nat_cmp sizes k))
    → Passed x x.lines lines table sizes
passed_again x lines table sizes h same as_before measured =
    subst (λ (ls : List Line). Passed x x.lines ls table sizes) (sym same) (record {
      declared = record {
        queues = h.declared.queues;
        resources = h.declared.resources;
        semaphores = h.declared.semaphores;
        events = h.declared.events;
        fences = h.declared.fences;
        passes = λ k. ap (λ o. option_and_then pass_said
            (option_and_then (slice_get x.passes.lines.items) o)) (as_before k) ∙ h.declared.passes k;
        passes_known = λ k. ap is_some (as_before k) ∙ h.declared.passes_known k;
      };
      recorded = h.recorded;
      steady = record {
        scopes = h.steady.scopes;
        steps = h.steady.steps;
        calls = h.steady.calls;
        sizes = measured;
      };
      size = h.size;
      few = h.few;
      lanes = h.lanes;
      recorders = h.recorders;
      short = h.short;
    })

-- the sizes were put, and then the line was not taken
pub passed_put : (x : Inside) (lines : List Line) (n : ℕ) (m : PassSizes) (table : BTreeMap ℕ ℕ)
    (sizes : BTreeMap ℕ PassSizes) → IsSoundInside x → is_new_pass (trace_in x) n ≡ true → lines
    ≡ x.passes.lines.items
    → IsAsBefore x.passes.table table → Puts x.sizes sizes n m → Passed x x.lines lines table sizes
passed_put x lines n m table sizes h new same as_before puts =
    passed_again x lines table sizes h same as_before (sizes_put x n m sizes h (pass_new x n new) puts)
