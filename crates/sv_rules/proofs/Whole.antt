-- The trace of lines of which none is refused is lawful, where no recording is open.
use Rattle.std.proofs.Common.{◌≡◌, ℕ, zero, suc, ◌<◌, ◌≤◌, List, [], ◌∷◌, Bool, true, false, not, eqb, cond}
use Rattle.std.proofs.Common.{Option, None, Some, refl, sym, ◌∙◌, ap, subst, arith, length, replicate}
use Rattle.std.proofs.Common.{slice_index_or, option_and_then, All, AllPairs, Contains, eq-eqb, ◌==◌}
use Rattle.std.proofs.Common.{if◌then◌else◌, Result, Ok, Err, IfOk}
use Rattle.std.specs.List.{range_with_len}
use Rattle.std.proofs.lemmas.List.Elements.{All-nil}
use Rattle.sv_model.specs.declared.line.Line.{Line}
use Rattle.sv_model.specs.declared.line.Mark.{Mark}
use Rattle.sv_model.specs.declared.line.Mark.TheVariants.{Publish, Call}
use Rattle.sv_model.specs.declared.line.Recording.{Recording}
use Rattle.sv_model.specs.declared.line.Trace.{Trace}
use Rattle.sv_model.specs.Declarations.{recording_of}
use Rattle.sv_model.specs.Holding.{publishes, is_published}
use Rattle.sv_model.specs.History.{IsOfTrace, published_by}
use Rattle.sv_model.specs.LawfulCommands.{IsLawfulRecording}
use Rattle.sv_model.specs.Lawful.{IsLawfulQueue, IsLawfulResource, IsLawfulSemaphore, IsLawfulEventLine}
use Rattle.sv_model.specs.Lawful.{IsLawfulFence, IsLawfulPassLine, IsLawfulCall, Differ, HasRecorder}
use Rattle.sv_model.specs.Lawful.{IsInItsScript, IsLawfulScript, IsLawful, event_count}
use Rattle.sv_model.specs.Size.{work_size}
use Rattle.sv_model.specs.declared.refusal.Fault.{Fault}
use Rattle.sv_rules.specs.Ends.{is_unfinished, EndsWith}
use Rattle.sv_rules.specs.Laws.{NoneIsRefused}
use Rattle.sv_rules.specs.Taken.{Taken, taken_of, has_ended}
use Rattle.sv_rules.specs.Trace.{no_lines}
use Rattle.sv_rules.specs.SoFar.{DeclareLawfully, DeclaredLawfully, IsAmong, IsLawfulSoFar, NamesAll}
use Rattle.sv_rules.specs.SoFar.{RecordingIsLawfulSoFar}
use Rattle.sv_rules.proofs.EachStep.{after_line}
use Rattle.sv_rules.proofs.Lists.{Holds, given_all, gives_it, found_here}
use Rattle.sv_rules.proofs.Passing.{none_at, not_false, same_number}

-- Before any line.

abbrev no_events : (X : Type 0) → List X
no_events X = []

empty_script : {X : Type 0} (m n : ℕ) → slice_index_or (replicate m (no_events X)) n [] ≡ []
empty_script zero n = refl
empty_script (suc m) zero = refl
empty_script (suc m) (suc n) = empty_script m n

no_pairs : {X : Type 0} (R : X → X → Type 0) → AllPairs R []
no_pairs R i j d lt within = absurd (omega (arith, within))

no_lines_of : (IsOfKind : Line → Type 0) → DeclareLawfully IsOfKind []
no_lines_of IsOfKind = record { each = All-nil IsOfKind; once = no_pairs Differ }

nothing_declared : DeclaredLawfully [] [] [] [] [] []
nothing_declared = record {
  queues = no_lines_of IsLawfulQueue;
  resources = no_lines_of IsLawfulResource;
  semaphores = no_lines_of IsLawfulSemaphore;
  events = no_lines_of IsLawfulEventLine;
  fences = no_lines_of IsLawfulFence;
  passes = no_lines_of IsLawfulPassLine;
}

pub before_any : IsLawfulSoFar 0 no_lines
before_any = record {
  few = omega arith;
  declared = nothing_declared;
  recordings = All-nil (RecordingIsLawfulSoFar 0 no_lines);
  recordings_once = no_pairs Differ;
  lane_count = refl;
  lanes = λ lane. subst (All (IsLawfulCall no_lines lane)) (sym (empty_script 16 lane))
      (All-nil (IsLawfulCall no_lines lane));
  recorder_count = refl;
  once = λ recorder. subst (AllPairs Differ) (sym (empty_script 16 recorder)) (no_pairs Differ);
  of_trace = All-nil (IsOfTrace no_lines);
  by_lane = λ lane. ap (λ (script : List Line). range_with_len 0 (length script))
      (sym (empty_script 16 lane));
  by_recorder = λ recorder. sym (empty_script 16 recorder);
  ended = λ n. refl;
  named = λ lane. subst (All (NamesAll (IsAmong []))) (sym (empty_script 16 lane))
      (All-nil (NamesAll (IsAmong [])));
  events = (let none : event_count no_lines ≡ 0 = refl in omega (arith, none));
  size = (let none : work_size no_lines ≡ 0 = refl in omega (arith, none));
}

so_far : (lines : List Line) → NoneIsRefused lines
    → IsLawfulSoFar (taken_of lines).lines (taken_of lines).trace
unfolding taken_of
so_far [] h = before_any
so_far (line ∷ before) h = after_line (taken_of before) line (so_far before h.2) h.0 h.1

-- At the end.

all_ended : (t : Trace) → is_unfinished t ≡ false → (k : ℕ) (d : Recording) → k < length t.recordings
    → IsAmong t.text_order (slice_index_or t.recordings k d).rec
unfolding is_unfinished has_ended
all_ended t e k d lt = not_false (is_published t.text_order (slice_index_or t.recordings k d).rec)
    (none_at (λ (r : Recording). not (is_published t.text_order r.rec)) t.recordings e k d lt)

-- The scripts of recorders.

own_recording : (t : Trace) (recorder : ℕ) (m : Mark)
    → Holds (λ k. HasRecorder recorder (recording_of t k)) (published_by t recorder m)
own_recording t recorder (Publish k) = by_cases (recording_of t k) refl
  where
    by_test : (x : Recording) → recording_of t k ≡ Some x → (b : Bool) → eqb x.recorder recorder ≡ b
        → Holds (λ j. HasRecorder recorder (recording_of t j)) (cond b (Some k) None)
    by_test x found true e = subst (HasRecorder recorder) (sym found) (same_number x.recorder recorder e)
    by_test x found false e = tt

    by_cases : (o : Option Recording) → recording_of t k ≡ o
        → Holds (λ j. HasRecorder recorder (recording_of t j))
        (option_and_then (λ (x : Recording). if x.recorder == recorder then Some k else None) o)
    by_cases None found = tt
    by_cases (Some x) found = by_test x found (eqb x.recorder recorder) refl
own_recording t recorder (Call lane index) = tt

script_lawful : (lines : ℕ) (t : Trace) → IsLawfulSoFar lines t → (recorder : ℕ) → IsLawfulScript t recorder
script_lawful lines t h recorder = record {
  own = subst (All (λ k. HasRecorder recorder (recording_of t k))) (h.by_recorder recorder)
      (given_all (published_by t recorder) (λ k. HasRecorder recorder (recording_of t k)) t.text_order
      (λ i m lt. own_recording t recorder (slice_index_or t.text_order i m)));
  once = h.once recorder;
}

publishes_it : (t : Trace) (r : Recording) → recording_of t r.rec ≡ Some r → (m : Mark) → publishes r.rec m
    ≡ true → published_by t r.recorder m ≡ Some r.rec
publishes_it t r found (Publish k) e =
    let same = same_number k r.rec e in
    ap (option_and_then (λ (x : Recording). if x.recorder == r.recorder then Some k else None))
    (ap (recording_of t) same ∙ found)
    ∙ ap (λ b. cond b (Some k) None) (eq-eqb r.recorder r.recorder refl)
    ∙ ap Some same
publishes_it t r found (Call lane index) e = absurd (let h : false ≡ true = e in cc)

in_its_script : (lines : ℕ) (t : Trace) → IsLawfulSoFar lines t → (r : Recording) → recording_of t r.rec
    ≡ Some r → IsAmong t.text_order r.rec → IsInItsScript t r
in_its_script lines t h r found among = subst (λ script. Contains script r.rec) (h.by_recorder r.recorder)
    (gives_it (publishes r.rec) (published_by t r.recorder) r.rec t.text_order (publishes_it t r found) among)

recording_lawful : (lines : ℕ) (t : Trace) (r : Recording) → lines ≤ 1000000
    → RecordingIsLawfulSoFar lines t r → IsAmong t.text_order r.rec → IsLawfulRecording t r
recording_lawful lines t r most h among = record {
  number = h.number;
  recorder = h.recorder;
  family = h.family;
  few = (let short = h.few in omega (arith, short, most));
  commands = h.commands;
  end = h.end among;
}

pub is_lawful : (lines : ℕ) (t : Trace) → IsLawfulSoFar lines t → is_unfinished t ≡ false → IsLawful t
is_lawful lines t h e = record {
  queues = h.declared.queues.each;
  queues_once = h.declared.queues.once;
  resources = h.declared.resources.each;
  resources_once = h.declared.resources.once;
  semaphores = h.declared.semaphores.each;
  semaphores_once = h.declared.semaphores.once;
  events = h.declared.events.each;
  events_once = h.declared.events.once;
  fences = h.declared.fences.each;
  fences_once = h.declared.fences.once;
  passes = h.declared.passes.each;
  passes_once = h.declared.passes.once;
  recordings = λ k r lt. recording_lawful lines t (slice_index_or t.recordings k r) h.few
      (h.recordings k r lt) (all_ended t e k r lt);
  recordings_once = h.recordings_once;
  lane_count = h.lane_count;
  lanes = h.lanes;
  recorder_count = h.recorder_count;
  recorders = script_lawful lines t h;
  scripted = λ k r lt. in_its_script lines t h (slice_index_or t.recordings k r)
      (found_here (λ (x : Recording). x.rec) t.recordings k r h.recordings_once lt) (all_ended t e k r lt);
  order = record { of_trace = h.of_trace; lanes = h.by_lane; recorders = h.by_recorder };
  ended = h.ended;
  few = (let events = h.events in let most = h.few in omega (arith, events, most));
  size = h.size;
}

pub trace_lawful : (lines : List Line) → NoneIsRefused lines → is_unfinished (taken_of lines).trace ≡ false
    → IsLawful (taken_of lines).trace
trace_lawful lines h e = is_lawful (taken_of lines).lines (taken_of lines).trace (so_far lines h) e

-- what a checker answers at the end is lawful
pub answer_lawful : (s : Taken) (result : Result Trace Fault) → IsLawfulSoFar s.lines s.trace
    → EndsWith s result → IfOk result IsLawful
answer_lawful s (Ok t) h ends = subst IsLawful (sym ends.1) (is_lawful s.lines s.trace h ends.0)
answer_lawful s (Err fault) h ends = tt
