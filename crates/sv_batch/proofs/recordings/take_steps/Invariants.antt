use Rattle.std.proofs.Common.{take}
use Rattle.std.specs.List.{All}
use Rattle.sv_model.specs.declared.line.Trace.{Trace}
use Rattle.sv_step_laws.specs.Steps.{IsStepOf}
use Rattle.sv_processed.specs.Works.{WorkFits}
use Rattle.sv_batch.specs.Running.{are_steps_after}
use Rattle.sv_batch.proofs.recordings.take_steps.Given as goal

abbrev pub invariant-loop-step : goal.invariant-loop-step
invariant-loop-step l = record {
  fits : (t : Trace) → All (IsStepOf t) l.fn.steps → WorkFits t l.fn.work → WorkFits t l.work;
  at : are_steps_after l.run (take l.step-index l.fn.steps) l.fn.work l.work;
}
