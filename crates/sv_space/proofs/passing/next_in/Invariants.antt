use Rattle.std.proofs.Common.{◌≤◌, ◌-◌, length}
use Rattle.sv_space.specs.Patterns.{AreAsked, AreQuietFrom}
use Rattle.sv_space.proofs.passing.next_in.Given as goal

-- the numbers from the first up to this place are of patterns of which nothing is added
abbrev pub invariant-loop-place : goal.invariant-loop-place
invariant-loop-place l = record {
  first : l.from ≤ l.place;
  known : AreAsked l.state l.patterns.items l.asked;
  passed : AreQuietFrom l.from l.place l.state l.patterns.items l.numbers.items;
}

abbrev pub decreases-loop-place : goal.decreases-loop-place
decreases-loop-place l = length l.numbers.items - l.place
