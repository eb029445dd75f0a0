use Rattle.std.proofs.Common.{take}
use Rattle.sv_record.specs.Places.{ArePlaces}
use Rattle.sv_record.proofs.passes.places_of.Given as goal

abbrev pub invariant-loop-i : goal.invariant-loop-i
invariant-loop-i l = ArePlaces (take l.i l.lines) l.places
