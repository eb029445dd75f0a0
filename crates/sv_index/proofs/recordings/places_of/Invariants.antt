use Rattle.std.proofs.Common.{take}
use Rattle.sv_index.specs.Places.{ArePlaces}
use Rattle.sv_index.proofs.recordings.places_of.Given as goal

abbrev pub invariant-loop-place : goal.invariant-loop-place
invariant-loop-place l = ArePlaces (take l.place l.recordings) l.places
