-- How much the lines of a space keep.
use Rattle.std.specs.Prelude.{ℕ, ◌+◌, ◌-◌, ◌^◌, length, min, sum_by}
use Rattle.sv_rangemap.specs.declared.part.Part.{Part}
use Rattle.sv_space.specs.declared.known.Known.{Known}
use Rattle.sv_space.specs.declared.line.Line.{Line}

abbrev pub pieces_on : Line → ℕ
pieces_on line = length line.pieces.parts.items

-- the accesses that are kept for a piece
abbrev pub kept_by : Part Known → ℕ
kept_by p = length p.value.state.written + length p.value.state.reads

abbrev pub kept_on : Line → ℕ
kept_on line = sum_by kept_by line.pieces.parts.items
