use Rattle.std.proofs.Common.{◌≡◌, map, take}
use Rattle.sv_model.specs.Places as spec
use Rattle.sv_binding.specs.Runs.{run_for}
use Rattle.sv_binding.proofs.binding.bind_accesses.Given as goal

abbrev pub invariant-loop-access : goal.invariant-loop-access
invariant-loop-access l = l.bound ≡ map (spec.bind_access (run_for 0 l.run)) (take l.access-index l.accesses)
