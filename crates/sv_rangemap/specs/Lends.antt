-- What a list in chunks ends as, where a `&mut` to an item is returned.
use Rattle.std.specs.Prelude.{ℕ, slice_set}
use Rattle.std.specs.Borrow.{Lends, Fml, RattleType, MutBor}
use Rattle.sv_rangemap.specs.Items.{Items}
use Rattle.sv_rangemap.specs.contracts.chunks.Chunks.{the_row}

-- the list with another item at this place
abbrev pub with_item : {T : Type 0} → Items T → ℕ → T → Items T
with_item list index item = record { items = slice_set list.items index item }

-- once the item is given back, the list has at its place what it was left with
abbrev pub lends_item : (T : RattleType) → MutBor (Items T.Denot) → ℕ → MutBor T.Denot → Fml
lends_item T list index item = Lends (the_row T) T list item (with_item list.now index)
