use Rattle.std.proofs.Common.{◌≡◌, map, take}
use Rattle.sv_model.specs.Places as spec
use Rattle.sv_binding.specs.Runs.{run_for}
use Rattle.sv_binding.proofs.binding.bind_groups.Given as goal

abbrev pub invariant-loop-group : goal.invariant-loop-group
invariant-loop-group l = l.bound ≡ map (spec.bind_group (run_for 0 l.run)) (take l.group-index l.groups)
