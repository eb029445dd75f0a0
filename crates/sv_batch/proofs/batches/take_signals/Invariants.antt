use Rattle.std.proofs.Common.{ℕ, ◌≡◌, fold, take}
use Rattle.std.specs.List.{All}
use Rattle.sv_model.specs.Semaphores.{signal_given, timeline_notes, signaled}
use Rattle.sv_model.specs.Lists.{gather}
use Rattle.sv_model.specs.Primitives.{Made}
use Rattle.sv_model.specs.declared.line.Trace.{Trace}
use Rattle.sv_binding.specs.Runs.{run_for}
use Rattle.sv_step_laws.specs.Steps.{IsGroupOf}
use Rattle.sv_replies.specs.Replying.{IsOnNone}
use Rattle.sv_processed.specs.Works.{IsLeft}
use Rattle.sv_batch.specs.Running.{AreSignalsReady}
use Rattle.sv_batch.proofs.batches.take_signals.Given as goal

abbrev pub invariant-loop-signal : goal.invariant-loop-signal
invariant-loop-signal l = record {
  checks : l.work.checks ≡ l.fn.work.checks;
  vulkan_events : l.work.events ≡ l.fn.work.events;
  left : (t : Trace) (m : Made) → AreSignalsReady t m l.fn.signals → IsLeft t m l.fn.work
      → IsLeft t (fold (signaled t) m (take l.signal-index l.fn.signals)) l.work;
  groups : (t : Trace) (event : ℕ) (m : Made) → AreSignalsReady t m l.fn.signals → IsLeft t m l.fn.work
      → l.groups ≡ gather (signaled t) (signal_given t (run_for event l.run)) m
      (take l.signal-index l.fn.signals);
  notes : (t : Trace) (event : ℕ) (m : Made) → AreSignalsReady t m l.fn.signals → IsLeft t m l.fn.work
      → l.notes ≡ gather (signaled t) (timeline_notes t (run_for event l.run)) m
      (take l.signal-index l.fn.signals);
  fit : (t : Trace) → All (IsGroupOf t) l.groups;
  none : All IsOnNone l.notes;
}
