use Rattle.std.proofs.Common.{◌≡◌, map, take}
use Rattle.sv_model.specs.Places as spec
use Rattle.sv_binding.specs.Runs.{run_for}
use Rattle.sv_binding.proofs.binding.bind_deps.Given as goal

abbrev pub invariant-loop-dep : goal.invariant-loop-dep
invariant-loop-dep l = l.bound ≡ map (spec.bind_dep (run_for 0 l.run)) (take l.dep-index l.deps)
