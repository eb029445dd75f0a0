use Rattle.std.proofs.Common.{Contains, take}
use Rattle.sv_model.specs.declared.work.Dep.{Dep}
use Rattle.sv_state.specs.Outlines.{IsQuiet}
use Rattle.sv_state.proofs.entry.adds.Given as goal

-- later groups with the outlines taken so far add nothing
abbrev pub invariant-loop-d : goal.invariant-loop-d
invariant-loop-d l = (d : Dep) → Contains (take l.d-index l.outlines) d → IsQuiet l.e.access l.e.reached d
