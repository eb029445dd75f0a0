-- How many pieces there are on lines, and how many more after areas were cut.
use Rattle.std.specs.Prelude.{ℕ, ◌≤◌, ◌+◌, ◌*◌, List, sum_by}
use Rattle.sv_space.specs.Counts.{pieces_on}
use Rattle.sv_space.specs.declared.line.Line.{Line}

abbrev pub pieces_over : List Line → ℕ
pieces_over lines = sum_by pieces_on lines

-- there are at most two pieces more for each of so many runs
abbrev pub GrowBy : ℕ → List Line → List Line → Type 0
GrowBy runs old new = pieces_over new ≤ pieces_over old + 2 * runs
