use Rattle.std.proofs.Common.{◌≡◌, take, sum_by}
use Rattle.sv_model.specs.Size.{group_size, capped}
use Rattle.sv_lines.proofs.measure.groups_size.Given as goal

abbrev pub invariant-loop-group : goal.invariant-loop-group
invariant-loop-group l = l.size ≡ capped (sum_by group_size (take l.group-index l.groups))
