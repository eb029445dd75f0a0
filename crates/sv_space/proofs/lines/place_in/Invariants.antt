use Rattle.std.proofs.Common.{ℕ, ◌<◌, ◌≤◌, ◌-◌, length, get_or}
use Rattle.sv_space.specs.Sorted.{AreSorted}
use Rattle.sv_space.specs.declared.line.Line.{Line}
use Rattle.sv_space.proofs.lines.place_in.Given as goal

abbrev pub invariant-loop-low : goal.invariant-loop-low
invariant-loop-low l =
    (l.low ≤ l.high) × (l.high ≤ length l.lines)
    × (AreSorted l.lines → (k : ℕ) (d : Line) → k < l.low → (get_or l.lines k d).res < l.res)
    × (AreSorted l.lines → (k : ℕ) (d : Line) → l.high ≤ k → k < length l.lines → l.res
    ≤ (get_or l.lines k d).res)

abbrev pub decreases-loop-low : goal.decreases-loop-low
decreases-loop-low l = l.high - l.low
