use Rattle.std.proofs.Common.{ℕ, ◌≡◌, ◌<◌, length, get_or, take}
use Rattle.sv_rangemap.specs.declared.chunk.Chunk.{Chunk}
use Rattle.sv_rangemap.specs.Chunking.{HaveSameItems, items_in}
use Rattle.sv_rangemap.proofs.chunk.count.Given as goal

abbrev pub invariant-loop-index : goal.invariant-loop-index
invariant-loop-index g l =
    HaveSameItems l.initial.chunks.items l.chunks.items
    × ((k : ℕ) (d : Chunk g.row.T.Denot) → k < l.index → (get_or l.chunks.items k d).first
    ≡ length (items_in (take k l.initial.chunks.items)))
    × (l.next ≡ length (items_in (take l.index l.initial.chunks.items)))
