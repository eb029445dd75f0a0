-- Sets as numbers: bit k of the number tells whether k is a member.
use Rattle.std.specs.Prelude.{ℕ, ◌≡◌, ◌==◌, ◌^◌, Bool, not, List, sum_by}
use Rattle.std.specs.Int.{bit_at}
use Rattle.std.specs.Int.RustNames.{bit_and}

-- k is a member
abbrev pub Has : ℕ → ℕ → Type 0
Has set k = bit_at set k ≡ 1

-- some member is in both
abbrev pub Meets : ℕ → ℕ → Type 0
Meets a b = (k : ℕ) × Has a k × Has b k

-- each member of b is in a
abbrev pub Includes : ℕ → ℕ → Type 0
Includes a b = (k : ℕ) → Has b k → Has a k

-- the tests of the same
abbrev pub has : ℕ → ℕ → Bool
has set k = bit_at set k == 1

abbrev pub meets : ℕ → ℕ → Bool
meets a b = not (bit_and a b == 0)

-- the set of these numbers, each of which stands once
abbrev pub set_of : List ℕ → ℕ
set_of numbers = sum_by (λ k. 2 ^ k) numbers
