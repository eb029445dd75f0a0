use Rattle.std.proofs.Common.{◌≡◌, ◌≤◌, take, map}
use Rattle.sv_model.specs.Barriers.{element_group}
use Rattle.sv_model.specs.Positions.{groups_from}
use Rattle.sv_model.proofs.Positions.{transition_count}
use Rattle.sv_command.proofs.groups.groups.Given as goal

abbrev pub invariant-loop-element : goal.invariant-loop-element
invariant-loop-element l = record {
  count : l.pos ≡ transition_count (map (element_group l.here) (take l.element-index l.elements));
  few : l.pos ≤ l.element-index;
  made : l.groups ≡ groups_from l.here.step 0 (map (element_group l.here) (take l.element-index l.elements));
}
