use Rattle.std.proofs.Common.{Contains, take}
use Rattle.sv_model.specs.declared.work.Dep.{Dep}
use Rattle.sv_state.specs.Outlines.{IsFull}
use Rattle.sv_state.proofs.entry.is_full.Given as goal

-- all that the outlines taken so far may give is reached
abbrev pub invariant-loop-d : goal.invariant-loop-d
invariant-loop-d l = (d : Dep) → Contains (take l.d-index l.outlines) d → IsFull l.e.reached d
