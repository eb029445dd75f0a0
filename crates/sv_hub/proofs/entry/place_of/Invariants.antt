use Rattle.std.proofs.Common.{ℕ, ◌<◌, ◌≢◌, slice_index_or}
use Rattle.sv_hub.proofs.entry.place_of.Given as goal

-- no entry before this place has the number
abbrev pub invariant-loop-place : goal.invariant-loop-place
invariant-loop-place g l = (k : ℕ) (d : _) → k < l.place → (slice_index_or l.entries k d).number ≢ l.number
