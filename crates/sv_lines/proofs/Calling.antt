-- The checker is sound after one more call.
use Rattle.std.proofs.Common.{◌≡◌, ℕ, ◌+◌, ◌<◌, ◌≤◌, List, [], ◌∷◌, ◌++◌, Bool, true, false, not, ◌||◌}
use Rattle.std.proofs.Common.{◌&&◌, ◌==◌, refl, sym, ◌∙◌, ap, subst, arith, length, map, sum_by, get_or}
use Rattle.std.proofs.Common.{length-set, length-append, inl, inr}
use Rattle.std.proofs.lemmas.Bool.Decides.{eqb_tells}
use Rattle.std.proofs.lemmas.List.{get_or-set_same, get_or-set_other}
use Rattle.std.proofs.lemmas.List.Sums.{sum_by-set, sum_by_push}
use Rattle.std.proofs.lemmas.List.Folds.{list_any-append}
use Rattle.std.specs.List.{list_any}
use Rattle.std.specs.Prelude.{slice_index_or}
use Rattle.sv_model.specs.declared.line.Line.{Line}
use Rattle.sv_model.specs.declared.line.Mark.{Mark}
use Rattle.sv_model.specs.declared.line.Mark.TheVariants.{Call}
use Rattle.sv_model.specs.declared.line.Recording.{Recording}
use Rattle.sv_model.specs.declared.line.Trace.{Trace}
use Rattle.sv_model.specs.Declarations.{recording_of}
use Rattle.sv_model.specs.Holding.{publishes, is_published}
use Rattle.sv_model.specs.Size.{call_size, work_size, capped}
use Rattle.sv_lines.specs.declared.taken.TakenLines.TheInside.{Inside}
use Rattle.sv_rules.specs.Places.{is_open_by, is_recording, submits_wrongly}
use Rattle.sv_lines.specs.Sound.{IsSound, KeepsEnded, known_of, sized_part, trace_from}
use Rattle.sv_rules.specs.Taken.{has_ended}
use Rattle.sv_rules.specs.Trace.{with_event}
use Rattle.sv_lines.proofs.Kept.{IsSoundInside, trace_in}
use Rattle.sv_lines.proofs.Steady.{call_ended}
use Rattle.sv_lines.proofs.Sized.{recording_same, same_passes, work_same, size_of_part}

-- lists of values and tests that agree

pub map_agree : {A B : Type 0} (f g : A → B) → ((x : A) → f x ≡ g x) → (xs : List A) → map f xs ≡ map g xs
map_agree f g e [] = refl
map_agree f g e (x ∷ xs) = ap (λ y. y ∷ map f xs) (e x) ∙ ap (λ ys. g x ∷ ys) (map_agree f g e xs)

pub any_agree : {A : Type 0} (p q : A → Bool) → ((x : A) → p x ≡ q x) → (xs : List A) → list_any p xs
    ≡ list_any q xs
any_agree p q e [] = refl
any_agree p q e (x ∷ xs) = ap (λ b. b || list_any p xs) (e x) ∙ ap (λ b. q x || b) (any_agree p q e xs)

or_false : (b : Bool) → (b || false) ≡ b
or_false true = refl
or_false false = refl

-- after a call
abbrev pub after_call : Inside → List (List Line) → List Mark → Trace
after_call x lanes order = trace_from x.queues.lines.items x.resources.lines.items x.semaphores.lines.items
    x.events.lines.items x.fences.lines.items x.passes.lines.items x.recordings.list.items lanes
    x.scripts.recorders order

ended_same : (x : Inside) (lanes : List (List Line)) (lane index n : ℕ)
    → has_ended (after_call x lanes (x.scripts.order.items ++ Call lane index ∷ [])) n
    ≡ has_ended (trace_in x) n
unfolding has_ended
ended_same x lanes lane index n = list_any-append (publishes n) x.scripts.order.items (Call lane index ∷ [])
    ∙ or_false (is_published x.scripts.order.items n)

open_same : (t u : Trace) (recorder : ℕ) → ((n : ℕ) → has_ended u n ≡ has_ended t n) → (r : Recording)
    → is_open_by u recorder r ≡ is_open_by t recorder r
open_same t u recorder e r = ap (λ b. r.recorder == recorder && not b) (e r.rec)

recording_kept : (t u : Trace) (recorder : ℕ) → u.recordings ≡ t.recordings
    → ((n : ℕ) → has_ended u n ≡ has_ended t n) → is_recording u recorder ≡ is_recording t recorder
unfolding is_recording
recording_kept t u recorder same e = any_agree (is_open_by u recorder) (is_open_by t recorder)
    (open_same t u recorder e) u.recordings ∙ ap (list_any (is_open_by t recorder)) same

-- the sum of the sizes of all scripts, of which one has one more call
one_more : (f : Line → ℕ) (scripts : List (List Line)) (lane : ℕ) (l : Line) → lane < length scripts
    → sum_by (λ (script : List Line). sum_by f script) (with_event scripts lane l)
    ≡ sum_by (λ (script : List Line). sum_by f script) scripts + f l
one_more f scripts lane l lt =
    let whole = sum_by-set (λ (script : List Line). sum_by f script) scripts lane
    (get_or scripts lane [] ++ l ∷ []) [] lt in
    let pushed = sum_by_push f (get_or scripts lane []) l in
    omega (arith, whole, pushed)

size_more : (x : Inside) (lane : ℕ) (order : List Mark) (l : Line) → lane < length x.scripts.lanes
    → work_size (sized_part (after_call x (with_event x.scripts.lanes lane l) order))
    ≡ work_size (sized_part (trace_in x)) + call_size (trace_in x) l
size_more x lane order l lt =
    let t : Trace = trace_in x in
    let u : Trace = sized_part (after_call x (with_event x.scripts.lanes lane l) order) in
    work_same (trace_in x) u (λ k. recording_same (trace_in x) u (same_passes (trace_in x) u refl)
    (recording_of (trace_in x) k)) (with_event x.scripts.lanes lane l)
    ∙ one_more (call_size (trace_in x)) x.scripts.lanes lane l lt
    ∙ ap (λ n. n + call_size (trace_in x) l) (sym (size_of_part (trace_in x)))

script_short : (scripts : List (List Line)) (lane k lines : ℕ) (l : Line) → lane < length scripts
    → ((n : ℕ) → length (get_or scripts n []) ≤ lines) → length (get_or (with_event scripts lane l) k [])
    ≤ lines + 1
script_short scripts lane k lines l lt h = elim (eqb_tells k lane) [
  | inl same ↦ subst (λ (script : List Line). length script ≤ lines + 1)
      (sym (ap (λ n. get_or (with_event scripts lane l) n []) same.1
      ∙ get_or-set_same scripts lane (get_or scripts lane [] ++ l ∷ []) [] lt))
      (let more = length-append (get_or scripts lane []) (l ∷ []) in let before = h lane in
      omega (arith, more, before))
  | inr other ↦ subst (λ (script : List Line). length script ≤ lines + 1)
      (sym (get_or-set_other scripts lane k (get_or scripts lane [] ++ l ∷ []) [] other.1))
      (let before = h k in omega (arith, before))
]

abbrev pub marks_after : Inside → ℕ → List Mark
marks_after x lane = x.scripts.order.items ++ Call lane (length (get_or x.scripts.lanes lane [])) ∷ []

abbrev pub called_in : Inside → ℕ → Line → Trace
called_in x lane l = after_call x (with_event x.scripts.lanes lane l) (marks_after x lane)

ended_in : (x : Inside) (lane : ℕ) (l : Line) (n : ℕ) → has_ended (called_in x lane l) n
    ≡ has_ended (trace_in x) n
ended_in x lane l n = ended_same x (with_event x.scripts.lanes lane l) lane
    (length (get_or x.scripts.lanes lane [])) n

known_same : (x : Inside) (lane : ℕ) (l : Line) (r : Recording) → known_of (trace_in x) r
    ≡ known_of (called_in x lane l) r
known_same x lane l r = ap (λ b. record (known_of (trace_in x) r) { ended = b })
    (sym (ended_in x lane l r.rec))

kept_before : (x : Inside) (lane : ℕ) (l : Line) (u : Trace) → KeepsEnded (called_in x lane l) u
    → KeepsEnded (trace_in x) u
kept_before x lane l u keeps k e = keeps k (ended_in x lane l k ∙ e)
    ∙ recording_same (sized_part (trace_in x)) (sized_part (called_in x lane l))
    (same_passes (sized_part (trace_in x)) (sized_part (called_in x lane l)) refl)
    (recording_of (trace_in x) k)

call_sound : (x : Inside) (lane total : ℕ) (l : Line) → IsSoundInside x → x.lines < 1000000 → lane
    < length x.scripts.lanes
    → submits_wrongly (trace_in x) l ≡ false
    → total ≡ capped (work_size (sized_part (trace_in x)) + call_size (trace_in x) l)
    → IsSound (x.lines + 1) (called_in x lane l) total x.queues.table x.resources.table x.semaphores.table
    x.events.table x.fences.table x.passes.table x.sizes x.recordings.known.items x.recordings.places
    x.recordings.busy
call_sound x lane total l h fewer within ended s = record {
  declared = record {
    queues = h.declared.queues;
    resources = h.declared.resources;
    semaphores = h.declared.semaphores;
    events = h.declared.events;
    fences = h.declared.fences;
    passes = h.declared.passes;
    passes_known = h.declared.passes_known;
  };
  recorded = record {
    known = h.recorded.known ∙ map_agree (known_of (trace_in x)) (known_of (called_in x lane l))
        (known_same x lane l) x.recordings.list.items;
    places = h.recorded.places;
    places_known = h.recorded.places_known;
    unknown = λ n none. ended_in x lane l n ∙ h.recorded.unknown n none;
    recorder_count = h.recorded.recorder_count;
    busy = λ k. h.recorded.busy k ∙ sym (recording_kept (trace_in x) (called_in x lane l) k refl
        (ended_in x lane l));
    own = h.recorded.own;
    small = h.recorded.small;
    lone = λ i j d lt within a b. h.recorded.lone i j d lt within
        (sym (open_same (trace_in x) (called_in x lane l)
        (slice_index_or x.recordings.list.items i d).recorder (ended_in x lane l)
        (slice_index_or x.recordings.list.items i d)) ∙ a)
        (sym (open_same (trace_in x) (called_in x lane l)
        (slice_index_or x.recordings.list.items i d).recorder (ended_in x lane l)
        (slice_index_or x.recordings.list.items j d)) ∙ b);
  };
  steady = record {
    scopes = h.steady.scopes;
    steps = h.steady.steps;
    calls = λ u keeps. one_more (call_size u) x.scripts.lanes lane l within
        ∙ ap (λ n. n + call_size u l) (h.steady.calls u (kept_before x lane l u keeps))
        ∙ ap (λ n. work_size (sized_part (trace_in x)) + n)
        (call_ended (trace_in x) u (kept_before x lane l u keeps) l ended)
        ∙ sym (size_more x lane (marks_after x lane) l within);
    sizes = h.steady.sizes;
  };
  size = s ∙ ap capped (sym (size_more x lane (marks_after x lane) l within));
  few = omega (arith, fewer);
  lanes = length-set x.scripts.lanes lane (get_or x.scripts.lanes lane [] ++ l ∷ []) ∙ h.lanes;
  recorders = h.recorders;
  short = λ k. script_short x.scripts.lanes lane k x.lines l within h.short;
}

-- with other scripts
abbrev pub with_scripts : Inside → List (List Line) → List (List ℕ) → List Mark → Trace
with_scripts x lanes recorders order = trace_from x.queues.lines.items x.resources.lines.items
    x.semaphores.lines.items x.events.lines.items x.fences.lines.items x.passes.lines.items
    x.recordings.list.items lanes recorders order

with_same : (x : Inside) (lines total : ℕ) (lanes lanes2 : List (List Line))
    (recorders recorders2 : List (List ℕ)) (order order2 : List Mark)
    → lanes ≡ lanes2 → recorders ≡ recorders2 → order ≡ order2
    → IsSound lines (with_scripts x lanes2 recorders2 order2) total x.queues.table x.resources.table
    x.semaphores.table x.events.table x.fences.table x.passes.table x.sizes x.recordings.known.items
    x.recordings.places x.recordings.busy
    → IsSound lines (with_scripts x lanes recorders order) total x.queues.table x.resources.table
    x.semaphores.table x.events.table x.fences.table x.passes.table x.sizes x.recordings.known.items
    x.recordings.places x.recordings.busy
with_same x lines total lanes lanes2 recorders recorders2 order order2 a b c h =
    subst (λ (ls : List (List Line)). IsSound lines
    (with_scripts x ls recorders order) total x.queues.table x.resources.table x.semaphores.table
    x.events.table x.fences.table x.passes.table x.sizes x.recordings.known.items x.recordings.places
    x.recordings.busy) (sym a)
    (subst (λ (rs : List (List ℕ)). IsSound lines
    (with_scripts x lanes2 rs order) total x.queues.table x.resources.table x.semaphores.table
    x.events.table x.fences.table x.passes.table x.sizes x.recordings.known.items x.recordings.places
    x.recordings.busy) (sym b)
    (subst (λ (marks : List Mark). IsSound lines (with_scripts x lanes2 recorders2 marks) total
    x.queues.table x.resources.table x.semaphores.table x.events.table x.fences.table x.passes.table
    x.sizes x.recordings.known.items x.recordings.places x.recordings.busy) (sym c) h))

pub call_again : (x : Inside) (lanes : List (List Line)) (recorders : List (List ℕ)) (order : List Mark)
    → IsSoundInside x → lanes ≡ x.scripts.lanes → recorders ≡ x.scripts.recorders → order
    ≡ x.scripts.order.items
    → IsSound x.lines (with_scripts x lanes recorders order) x.size x.queues.table x.resources.table
    x.semaphores.table x.events.table x.fences.table x.passes.table x.sizes x.recordings.known.items
    x.recordings.places x.recordings.busy
call_again x lanes recorders order h a b c = with_same x x.lines x.size lanes x.scripts.lanes recorders
    x.scripts.recorders order x.scripts.order.items a b c h

pub call_kept : (x : Inside) (lanes : List (List Line)) (recorders : List (List ℕ)) (order : List Mark)
    (lane total : ℕ) (l : Line) → IsSoundInside x → x.lines < 1000000 → lane < 16
    → lanes ≡ with_event x.scripts.lanes lane l → recorders ≡ x.scripts.recorders → order ≡ marks_after x lane
    → submits_wrongly (trace_in x) l ≡ false
    → total ≡ capped (work_size (trace_in x) + call_size (trace_in x) l)
    → IsSound (x.lines + 1) (with_scripts x lanes recorders order) total x.queues.table x.resources.table
    x.semaphores.table x.events.table x.fences.table x.passes.table x.sizes x.recordings.known.items
    x.recordings.places x.recordings.busy
call_kept x lanes recorders order lane total l h fewer small a b c ended s =
    with_same x (x.lines + 1) total lanes (with_event x.scripts.lanes lane l) recorders x.scripts.recorders
    order (marks_after x lane) a b c
    (call_sound x lane total l h fewer (let count = h.lanes in omega (arith, count, small)) ended
    (s ∙ ap (λ n. capped (n + call_size (trace_in x) l)) (sym (size_of_part (trace_in x)))))
