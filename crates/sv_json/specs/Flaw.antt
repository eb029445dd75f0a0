-- Which of the sentences against a part counts.
use Rattle.std.specs.Prelude.{ℕ, nat_le, if◌then◌else◌}
use Rattle.sv_json.specs.declared.found.Flaw.{Flaw}
use Rattle.sv_json.specs.declared.found.Flaw.TheVariants.{Shape, Name, Range, Fine}

-- the number of the refusal that the sentence gives; a part with no flaw has none, and so comes last
abbrev pub number_of : Flaw → ℕ
number_of Shape = 2
number_of Name = 3
number_of Range = 4
number_of Fine = 5

-- the flaw of a whole with two parts: the sentence of the least number that holds of a part
unfoldable pub least : Flaw → Flaw → Flaw
least f g = if nat_le (number_of f) (number_of g) then f else g
