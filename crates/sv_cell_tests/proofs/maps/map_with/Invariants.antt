use Rattle.sv_cell_tests.specs.OnMap.{HasAll}
use Rattle.sv_cell_tests.proofs.maps.map_with.Given as goal

abbrev pub invariant-loop-at : goal.invariant-loop-at
invariant-loop-at l = HasAll l.map
