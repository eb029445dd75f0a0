-- Semaphores and fences stand where what they stand for is as before.
use Rattle.std.proofs.Common.{ℕ, ◌≡◌, ◌∙◌, ◌==◌, List, Option, Some, None, cond, sym, ap}
use Rattle.std.specs.Prelude.{MatchOption, count_by, filter, filter_map, find, max, unwrap_or}
use Rattle.std.specs.List.{fold}
use Rattle.sv_model.specs.declared.line.Trace.{Trace}
use Rattle.sv_model.specs.declared.line.Batch.{Batch}
use Rattle.sv_model.specs.Places.{Run}
use Rattle.sv_model.specs.Declarations.{initial_value, is_declared_signaled, is_fence}
use Rattle.sv_model.specs.Primitives.{Made, Signal, FenceChange}
use Rattle.sv_model.specs.Semaphores.{current_value}
use Rattle.sv_model.specs.Fences.{fence_by}
use Rattle.sv_sema.specs.declared.semaphores.Semaphores.{Semaphores}
use Rattle.sv_sema.specs.declared.timeline.Timeline.{Timeline}
use Rattle.sv_sema.specs.Stands.{SemaphoresStandFor, IsBinary, IsTimeline, is_of, raise_of}
use Rattle.sv_fence.specs.declared.fences.Fences.{Fences}
use Rattle.sv_fence.specs.Stands.{FencesStandFor}
use Rattle.sv_gate.specs.ReadyLaws.{IsKept}
use Rattle.sv_gate.proofs.Folds.{batch_fences, recs_signals, recs_waits}

pub keeps : (t : Trace) (r : Run) (m : Made) (b : Batch) → IsKept t r m b
keeps t r m b = record {
  signals = recs_signals t r m b;
  waits = recs_waits t r m b;
  fences = batch_fences t r m b;
}

matched : {X : Type 0} (o : Option X) (P Q : X → Type 0) → ((x : X) → P x → Q x) → MatchOption o ⊥ P
    → MatchOption o ⊥ Q
matched None P Q more h = h
matched (Some x) P Q more h = more x h

binary_stays : (m k : Made) (n : ℕ) (standing : Option ℕ) → k.signals ≡ m.signals → k.waits ≡ m.waits
    → IsBinary m n standing → IsBinary k n standing
binary_stays m k n standing signals waits h = record {
  served = h.served;
  signals = ap (filter (is_of n)) signals ∙ h.signals;
  waits = h.waits ∙ sym (ap (count_by (λ (w : ℕ). w == n)) waits);
}

value_stays : (t : Trace) (m k : Made) (n : ℕ) → k.signals ≡ m.signals → current_value t k n
    ≡ current_value t m n
value_stays t m k n signals = ap (fold (λ (v : ℕ) (x : Signal). cond (x.sem == n)
    (max v (unwrap_or x.value 0)) v) (initial_value t n)) signals

timeline_stays : (t : Trace) (m k : Made) (n : ℕ) (x : Timeline) → k.signals ≡ m.signals
    → IsTimeline t m n x → IsTimeline t k n x
timeline_stays t m k n x signals h = record {
  initial = h.initial;
  current = h.current ∙ sym (value_stays t m k n signals);
  raises = h.raises ∙ sym (ap (filter_map (raise_of n)) signals);
  rises = h.rises;
  below = h.below;
}

pub semaphores_stay : (t : Trace) (m k : Made) (semaphores : Semaphores) → k.signals ≡ m.signals → k.waits
    ≡ m.waits → SemaphoresStandFor t m semaphores → SemaphoresStandFor t k semaphores
semaphores_stay t m k semaphores signals waits stands = record {
  binaries = λ n binary. matched _ (IsBinary m n) (IsBinary k n)
      (λ standing h. binary_stays m k n standing signals waits h) (stands.binaries n binary);
  timelines = λ n timed. matched _ (IsTimeline t m n) (IsTimeline t k n)
      (λ x h. timeline_stays t m k n x signals h) (stands.timelines n timed);
}

pub fences_stay : (t : Trace) (m k : Made) (fences : Fences) → k.fences ≡ m.fences
    → FencesStandFor t m fences → FencesStandFor t k fences
fences_stay t m k fences same stands = record {
  states = λ n. stands.states n ∙ ap (λ (all : List FenceChange). cond (is_fence t n)
      (Some (fence_by (is_declared_signaled t n) (find (λ (x : FenceChange). x.fence == n) all))) None)
      (sym same);
}
