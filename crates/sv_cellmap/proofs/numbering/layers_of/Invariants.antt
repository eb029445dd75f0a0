use Rattle.std.proofs.Common.{◌-◌, drop, length}
use Rattle.sv_cellmap.specs.CellNumbers.{HaveLayers}
use Rattle.sv_cellmap.proofs.numbering.layers_of.Given as goal

abbrev pub invariant-loop-number : goal.invariant-loop-number
invariant-loop-number l = HaveLayers l.table.items (drop (length l.lines - l.number) l.lines)
