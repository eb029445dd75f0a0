-- The cells of a buffer 0 of 64 bytes, and of an image 1 of 3 mips with 4 layers.
use Rattle.std.specs.Prelude.{◌≡◌, ◌<◌, ◌≤◌}
use Rattle.sv_model.specs.declared.work.Area.{Area}
use Rattle.sv_model.specs.declared.work.Area.TheVariants.{Bytes, Image}
use Rattle.sv_cellmap.specs.Making.{IsBoxIn}
use Rattle.sv_cellmap.specs.Maps.{HasArea}
use Rattle.sv_cellmap.specs.declared.map.CellMap.{CellMap}

abbrev pub IsOnMap : Area → Type 0
IsOnMap (Bytes res span) = (res ≡ 0) × (span.start < span.end) × (span.end ≤ 64)
IsOnMap (Image res box) = (res ≡ 1) × IsBoxIn 3 4 box

-- the map has them
abbrev pub HasAll : {V : Type 0} → CellMap V → Type 0
HasAll {V} map = (a : Area) → IsOnMap a → HasArea map a
