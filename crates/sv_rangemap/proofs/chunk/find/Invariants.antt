use Rattle.std.proofs.Common.{◌<◌, ◌≤◌, ◌-◌, length, get_or}
use Rattle.sv_rangemap.specs.declared.chunk.Chunk.{Chunk}
use Rattle.sv_rangemap.proofs.chunk.find.Given as goal

abbrev pub invariant-loop-high : goal.invariant-loop-high
invariant-loop-high g l =
    (l.low < l.high) × (l.high ≤ length l.chunks.items)
    × ((d : Chunk g.row.T.Denot) → (get_or l.chunks.items l.low d).first ≤ l.index)
    × ((d : Chunk g.row.T.Denot) → l.high < length l.chunks.items → l.index
    < (get_or l.chunks.items l.high d).first)

abbrev pub decreases-loop-high : goal.decreases-loop-high
decreases-loop-high g l = l.high - l.low
