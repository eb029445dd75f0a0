use Rattle.std.proofs.Common.{List, subst, sym}
use Rattle.std.specs.Global.{Vec}
use Rattle.sv_rangemap.specs.declared.map.RangeMap.{RangeMap}
use Rattle.sv_cellmap.specs.Making.{HasSpans}
use Rattle.sv_cell_tests.proofs.CellsOnMap.{all_there}
use Rattle.sv_cell_tests.specs.declared.number.Number.{Number}
use Rattle.sv_cell_tests.proofs.maps.open.Goals as goal

pub returns : goal.returns
returns c = all_there c.new-map.result.buffers.items c.add_buffer.new.self.images.items c.add_image.new.self
    (subst (λ (v : Vec (Vec (RangeMap Number))). HasSpans c.new-map.result.buffers.items v.items 0 64)
    (sym c.add_image.ensures.buffers) c.in_ok-add_buffer.ensures.spans) c.in_ok-add_image.ensures.boxes
