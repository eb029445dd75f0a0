use Rattle.std.proofs.Common.{take}
use Rattle.sv_state.specs.Outlines.{AreFull}
use Rattle.sv_state.proofs.entry.all_full.Given as goal

-- so it is for the entries taken so far
abbrev pub invariant-loop-e : goal.invariant-loop-e
invariant-loop-e l = AreFull (take l.e-index l.entries) l.outlines
