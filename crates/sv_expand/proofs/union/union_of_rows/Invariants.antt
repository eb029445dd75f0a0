use Rattle.std.proofs.Common.{ℕ, ◌≡◌, ◌&&◌, get_or}
use Rattle.std.specs.List.{list_any, range_with_len}
use Rattle.sv_mask.specs.Sets.{has}
use Rattle.sv_expand.proofs.union.union_of_rows.Given as goal

-- the rows so far
abbrev pub invariant-loop-member : goal.invariant-loop-member
invariant-loop-member l = (k : ℕ) → has l.all k ≡ list_any (λ j. has l.set j && has (get_or l.rows j 0) k)
    (range_with_len 0 l.member)
