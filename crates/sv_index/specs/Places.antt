-- The first place of each number among recordings.
use Rattle.std.specs.Prelude.{ℕ, ◌≡◌, ◌<◌, ◌==◌, List, Option, Some, None, find, length, slice_get}
use Rattle.std.specs.Prelude.{if◌then◌else◌}
use Rattle.std.specs.BTreeMap.{BTreeMap, get}
use Rattle.std.specs.Option.{option_or}
use Rattle.std.specs.Ordering.{nat_cmp}
use Rattle.sv_model.specs.Declarations.{first_recording}
use Rattle.sv_model.specs.declared.line.Recording.{Recording}

-- the first recording with that number stands there, or there is none
abbrev pub IsPlaceOf : List Recording → ℕ → Option ℕ → Type 0
IsPlaceOf recordings number None = first_recording recordings number ≡ None
IsPlaceOf recordings number (Some place) = (place < length recordings)
    × (first_recording recordings number ≡ slice_get recordings place)

-- the table has the place of each number
abbrev pub ArePlaces : List Recording → BTreeMap ℕ ℕ → Type 0
ArePlaces recordings places = (number : ℕ) → IsPlaceOf recordings number (get nat_cmp places number)

-- a number is noted at a place, where it was not noted before
abbrev pub Notes : BTreeMap ℕ ℕ → BTreeMap ℕ ℕ → ℕ → ℕ → Type 0
Notes old new number place = (n : ℕ) → get nat_cmp new n
    ≡ option_or (get nat_cmp old n) (if number == n then Some place else None)
