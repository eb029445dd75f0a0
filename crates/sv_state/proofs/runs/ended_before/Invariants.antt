use Rattle.std.proofs.Common.{ℕ, ◌<◌, ◌≤◌, ◌-◌, length, get_or}
use Rattle.sv_state.specs.declared.runs.Run.{Run}
use Rattle.sv_state.proofs.runs.ended_before.Given as goal

abbrev pub invariant-loop-low : goal.invariant-loop-low
invariant-loop-low l =
    (l.low ≤ l.high) × (l.high ≤ length l.runs)
    × ((k : ℕ) (d : Run) → k < l.low → (get_or l.runs k d).last < l.number)
    × ((k : ℕ) (d : Run) → l.high ≤ k → k < length l.runs → l.number ≤ (get_or l.runs k d).last)

abbrev pub decreases-loop-low : goal.decreases-loop-low
decreases-loop-low l = l.high - l.low
