use Rattle.std.proofs.Common.{◌≤◌}
use Rattle.sv_state.specs.States.{HasGoneOn}
use Rattle.sv_state.proofs.Changes.{Changing}
use Rattle.sv_state.proofs.entry.extend_from.Given as goal

-- those up to this place are changed, and the others are as they were
abbrev pub invariant-loop-i : goal.invariant-loop-i
invariant-loop-i l = record {
  behind : l.from ≤ l.i;
  changed : Changing (HasGoneOn l.at l.group) l.from l.i l.fn.entries l.entries;
}
