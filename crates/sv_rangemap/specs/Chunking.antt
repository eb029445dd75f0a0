-- Chunks of a list.
use Rattle.std.specs.Prelude.{ℕ, ◌≡◌, ◌<◌, ◌≤◌, ◌+◌, List, length, slice_index_or, take}
use Rattle.std.specs.List.{flat_map}
use Rattle.sv_rangemap.specs.declared.chunk.Chunk.{Chunk}

-- the items of all chunks in order
abbrev pub items_in : {T : Type 0} → List (Chunk T) → List T
items_in {T} chunks = flat_map (λ (c : Chunk T). c.items.items) chunks

-- so many chunks know how many items stand before them
abbrev pub AreCounted : {T : Type 0} → ℕ → List (Chunk T) → Type 0
AreCounted {T} upto chunks = (k : ℕ) (d : Chunk T) → k < upto → (slice_index_or chunks k d).first
    ≡ length (items_in (take k chunks))

-- there is a chunk, each knows how many items stand before it, and together they have so many
pub record AreChunks {T : Type 0} (len : ℕ) (chunks : List (Chunk T)) : Type 0 where
  pub some : 0 < length chunks
  pub counted : AreCounted (length chunks) chunks
  pub long : length (items_in chunks) ≡ len

-- the last chunk that begins at this place of the list or before
pub record IsChunkOf {T : Type 0} (index : ℕ) (chunks : List (Chunk T)) (at : ℕ) : Type 0 where
  pub listed : at < length chunks
  pub from : (d : Chunk T) → (slice_index_or chunks at d).first ≤ index
  pub before : (d : Chunk T) → at + 1 < length chunks → index < (slice_index_or chunks (at + 1) d).first

-- the chunks have the items that they had
pub record HaveSameItems {T : Type 0} (old new : List (Chunk T)) : Type 0 where
  pub long : length new ≡ length old
  pub items : (k : ℕ) (d : Chunk T) → (slice_index_or new k d).items ≡ (slice_index_or old k d).items
