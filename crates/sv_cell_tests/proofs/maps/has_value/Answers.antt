use Rattle.sv_cell_tests.proofs.CellsOnMap.{cell_there}
use Rattle.sv_cell_tests.proofs.maps.has_value.Goals as goal

pub get-requires : goal.get-requires
get-requires c = cell_there c.args.map.now c.args.cell c.requires (c.has_cell.ensures c.if-has_cell.true)
