use Rattle.std.proofs.Common.{ℕ, ◌≡◌, fold, take}
use Rattle.std.specs.List.{All}
use Rattle.sv_model.specs.Semaphores.{wait_given, waited}
use Rattle.sv_model.specs.Lists.{gather}
use Rattle.sv_model.specs.Primitives.{Made}
use Rattle.sv_model.specs.declared.line.Trace.{Trace}
use Rattle.sv_binding.specs.Runs.{run_for}
use Rattle.sv_step_laws.specs.Steps.{IsGroupOf}
use Rattle.sv_processed.specs.Works.{IsLeft}
use Rattle.sv_batch.specs.Running.{AreWaitsReady}
use Rattle.sv_batch.proofs.batches.take_waits.Given as goal

abbrev pub invariant-loop-wait : goal.invariant-loop-wait
invariant-loop-wait l = record {
  checks : l.work.checks ≡ l.fn.work.checks;
  vulkan_events : l.work.events ≡ l.fn.work.events;
  left : (t : Trace) (m : Made) → AreWaitsReady t m l.fn.waits → IsLeft t m l.fn.work
      → IsLeft t (fold waited m (take l.wait-index l.fn.waits)) l.work;
  groups : (t : Trace) (event : ℕ) (m : Made) → AreWaitsReady t m l.fn.waits → IsLeft t m l.fn.work
      → l.groups ≡ gather waited (wait_given t (run_for event l.run)) m (take l.wait-index l.fn.waits);
  fit : (t : Trace) → All (IsGroupOf t) l.groups;
}
