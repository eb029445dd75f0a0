use Rattle.std.proofs.Common.{take}
use Rattle.sv_space.specs.Patterns.{HasOutlines}
use Rattle.sv_space.proofs.pattern.fits.Given as goal

-- the outlines of those taken so far are listed
abbrev pub invariant-loop-i : goal.invariant-loop-i
invariant-loop-i l = HasOutlines l.outlines (take l.i l.deps)
