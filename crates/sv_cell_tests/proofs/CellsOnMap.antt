-- What the map of the tests has.
use Rattle.std.proofs.Common.{ℕ, ◌≡◌, ◌+◌, ◌<◌, ◌≤◌, ◌^◌, List, arith, lit<, subst, sym}
use Rattle.std.specs.Global.{Vec}
use Rattle.sv_model.specs.Cells.{alone}
use Rattle.sv_model.specs.declared.work.Area.{Area}
use Rattle.sv_model.specs.declared.work.Area.TheVariants.{Bytes, Image}
use Rattle.sv_model.specs.declared.work.Cell.{Cell}
use Rattle.sv_model.specs.declared.work.Cell.TheVariants.{Byte, Texel}
use Rattle.sv_rangemap.specs.declared.map.RangeMap.{RangeMap}
use Rattle.sv_cellmap.specs.Making.{HasBoxes, HasSpans}
use Rattle.sv_cellmap.specs.Maps.{HasBox, HasCell, HasSpan}
use Rattle.sv_cellmap.specs.declared.map.CellMap.{CellMap}
use Rattle.sv_cell_tests.specs.OnMap.{HasAll, IsOnMap}

-- a map has the cell that is an area of it alone
pub cell_there : {V : Type 0} (map : CellMap V) (cell : Cell) → HasAll map → IsOnMap (alone cell)
    → HasCell map cell
cell_there map (Byte res at) has is =
    let s = has (Bytes res (record { start = at; end = at + 1 })) is in
    let n : at + 1 ≤ s.line.size = s.inside in
    record { line = s.line; is = s.is; inside = omega (arith, n) }
cell_there map (Texel res mip layer) has is =
    let b = has (Image res (record { mip = mip; mips = 1; layer = layer; layers = 1 })) is in
    let s = b.each mip (omega arith) (omega arith) in
    let n : layer + 1 ≤ s.line.size = s.inside in
    record { line = s.line; is = s.is; inside = omega (arith, n) }

-- the buffer 0 and the image 1 were added
pub all_there : {V : Type 0} (bytes images : List (Vec (RangeMap V))) (map : CellMap V)
    → HasSpans bytes map.buffers.items 0 64 → HasBoxes images map.images.items 1 3 4 → HasAll map
all_there {V} bytes images map spans boxes (Bytes res span) is =
    subst (λ (n : ℕ). HasSpan map.buffers.items n 0 span) (sym is.0) (spans.here span is.1 is.2)
all_there {V} bytes images map spans boxes (Image res box) is =
    subst (λ (n : ℕ). HasBox map.images.items n box) (sym is.0) (boxes.here box (lit< tt) (lit< tt) is.1)
