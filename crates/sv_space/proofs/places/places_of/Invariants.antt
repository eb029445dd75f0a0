use Rattle.sv_space.specs.Places.{AreListed}
use Rattle.sv_space.proofs.places.places_of.Given as goal

abbrev pub invariant-loop-span : goal.invariant-loop-span
invariant-loop-span l = AreListed l.line.pieces.parts.items l.list l.span-index l.next l.places.items
