use Rattle.sv_cell_tests.specs.Standing.{AreCellsOf}
use Rattle.sv_cell_tests.proofs.cells.take_all.Given as goal

abbrev pub invariant-loop-number : goal.invariant-loop-number
invariant-loop-number l = AreCellsOf l.trace l.cells.space l.cells.layouts l.cells.owners
