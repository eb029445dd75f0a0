use Rattle.std.proofs.Common.{◌≤◌, take}
use Rattle.sv_state.specs.Outlines.{AreUpTo}
use Rattle.sv_state.proofs.entry.newest_of.Given as goal

-- none of those taken so far is of a later step
abbrev pub invariant-loop-e : goal.invariant-loop-e
invariant-loop-e l = record {
  accesses : AreUpTo l.newest (take l.e-index l.entries);
  least : l.least ≤ l.newest;
}
