use Rattle.std.proofs.Common.{◌≡◌, take, sum_by}
use Rattle.sv_model.specs.Size.{step_size, capped}
use Rattle.sv_lines.proofs.measure.steps_size.Given as goal

abbrev pub invariant-loop-step : goal.invariant-loop-step
invariant-loop-step l = l.size ≡ capped (sum_by step_size (take l.step-index l.steps))
