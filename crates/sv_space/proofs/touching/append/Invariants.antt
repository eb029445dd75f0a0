use Rattle.std.proofs.Common.{◌≡◌, ◌++◌, take}
use Rattle.sv_space.proofs.touching.append.Given as goal

abbrev pub invariant-loop-group : goal.invariant-loop-group
invariant-loop-group l = l.log ≡ l.initial.log ++ take l.group-index l.groups
