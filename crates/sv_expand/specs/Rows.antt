-- Rows of bits.
use Rattle.std.specs.Prelude.{ℕ, Bool, List, ◌&&◌, length, slice_index}
use Rattle.std.specs.List.{list_any, range_with_len}
use Rattle.sv_mask.specs.Sets.{has}

-- k is in the row of some member of a set
abbrev pub in_rows : ℕ → List ℕ → ℕ → Bool
in_rows set rows k = list_any (λ member. has set member && has (slice_index rows member) k)
    (range_with_len 0 (length rows))
