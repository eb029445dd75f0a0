use Rattle.std.proofs.Common.{take}
use Rattle.sv_state.specs.Outlines.{AreQuiet}
use Rattle.sv_state.proofs.entry.some_add.Given as goal

-- nothing is added to the entries taken so far
abbrev pub invariant-loop-e : goal.invariant-loop-e
invariant-loop-e l = AreQuiet (take l.e-index l.entries) l.outlines
