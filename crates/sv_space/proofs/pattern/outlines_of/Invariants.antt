use Rattle.std.proofs.Common.{take}
use Rattle.sv_space.specs.Patterns.{HasOutlines}
use Rattle.sv_space.proofs.pattern.outlines_of.Given as goal

-- the outlines of those taken so far are listed
abbrev pub invariant-loop-d : goal.invariant-loop-d
invariant-loop-d l = HasOutlines l.outlines.items (take l.d-index l.deps)
