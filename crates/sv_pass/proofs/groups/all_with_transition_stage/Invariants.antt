use Rattle.std.proofs.Common.{◌≡◌, map, take}
use Rattle.sv_model.specs.Barriers.{with_transition_stage}
use Rattle.sv_pass.proofs.groups.all_with_transition_stage.Given as goal

abbrev pub invariant-loop-dep : goal.invariant-loop-dep
invariant-loop-dep l = l.all ≡ map (with_transition_stage l.olds) (take l.dep-index l.deps)
