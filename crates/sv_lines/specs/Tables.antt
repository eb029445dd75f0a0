-- What a table says of each number.
use Rattle.std.specs.Prelude.{◌≡◌, ◌==◌, ℕ, Option, Some, if◌then◌else◌}
use Rattle.std.specs.BTreeMap.{BTreeMap, get}
use Rattle.std.specs.Ordering.{nat_cmp}

-- the table says at each number what the function says
abbrev pub Agrees : {V : Type 0} → BTreeMap ℕ V → (ℕ → Option V) → Type 0
Agrees table says = (n : ℕ) → get nat_cmp table n ≡ says n

-- the table says this at that number, and elsewhere what it said
abbrev pub Puts : {V : Type 0} → BTreeMap ℕ V → BTreeMap ℕ V → ℕ → V → Type 0
Puts old new number says = (n : ℕ) → get nat_cmp new n
    ≡ (if number == n then Some says else get nat_cmp old n)

abbrev pub IsAsBefore : {V : Type 0} → BTreeMap ℕ V → BTreeMap ℕ V → Type 0
IsAsBefore old new = (n : ℕ) → get nat_cmp new n ≡ get nat_cmp old n
