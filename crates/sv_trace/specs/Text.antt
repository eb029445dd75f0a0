-- The lines of a text: the pieces between LFs, but for an empty last one.
use Rattle.std.specs.Prelude.{ℕ, ◌-◌, ◌==◌, ◌||◌, Bool, List, [], length, take, slice_index_or, if◌then◌else◌}
use Rattle.std.specs.List.{slice_split, list_all}

-- the last piece is empty
unfoldable pub ends_empty : List (List ℕ) → Bool
ends_empty pieces = length (slice_index_or pieces (length pieces - 1) []) == 0

abbrev pub but_empty_last : List (List ℕ) → List (List ℕ)
but_empty_last pieces = if ends_empty pieces then take (length pieces - 1) pieces else pieces

unfoldable pub lines_of : List ℕ → List (List ℕ)
lines_of bytes = but_empty_last (slice_split (λ b. b == 10) bytes)

-- a line of spaces, tabs and CR alone
unfoldable pub is_blank : List ℕ → Bool
is_blank bytes = list_all (λ b. (b == 32) || (b == 9) || (b == 13)) bytes
