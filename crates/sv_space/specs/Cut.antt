-- The pieces of a line, and the areas of its resource.
use Rattle.std.specs.Prelude.{ℕ, ◌≡◌, ◌<◌, ◌≤◌, ◌⊎◌, List, length, slice_index_or, Contains, IsTrue}
use Rattle.std.specs.List.{AllPairs}
use Rattle.sv_model.specs.Cells.{covers}
use Rattle.sv_model.specs.declared.work.Area.{Area}
use Rattle.sv_model.specs.declared.work.Cell.{Cell}
use Rattle.sv_range.specs.Spans.{InSpan}
use Rattle.sv_rangemap.specs.declared.part.Part.{Part}
use Rattle.sv_space.specs.Lines.{IsInMip, cell_on}
use Rattle.sv_space.specs.declared.known.Known.{Known}
use Rattle.sv_space.specs.declared.shape.Shape.{Shape}

-- the area has the cell with this number of the line
abbrev pub Covers : Area → ℕ → Shape → ℕ → Type 0
Covers area res shape number = IsTrue (covers area (cell_on res shape number))

-- all cells of a piece that has one of the area are of the area, and in one mip
pub record IsCutFor (area : Area) (res : ℕ) (shape : Shape) (parts : List (Part Known)) : Type 0 where
  pub whole : (k n m : ℕ) (d : Part Known) → k < length parts → InSpan (slice_index_or parts k d).span n
      → InSpan (slice_index_or parts k d).span m → Covers area res shape n → Covers area res shape m
  pub in_mip : (k n : ℕ) (d : Part Known) → k < length parts → InSpan (slice_index_or parts k d).span n
      → Covers area res shape n → IsInMip shape (slice_index_or parts k d).span

-- no cell is of both areas
abbrev pub AreApart : Area → Area → Type 0
AreApart area other = (cell : Cell) → IsTrue (covers area cell) → IsTrue (covers other cell) → ⊥

-- the pieces that have cells of the area were given so many groups
abbrev pub IsCaughtFor : Area → ℕ → ℕ → Shape → List (Part Known) → Type 0
IsCaughtFor area groups res shape parts = (k n : ℕ) (d : Part Known) → k < length parts
    → InSpan (slice_index_or parts k d).span n → Covers area res shape n
    → (slice_index_or parts k d).value.upto ≡ groups

-- these are the places of the pieces that have cells of the area, in order
pub record ArePlacesOf (area : Area) (res : ℕ) (shape : Shape) (parts : List (Part Known))
    (places : List ℕ) : Type 0 where
  pub listed : (k : ℕ) → Contains places k → k < length parts
  pub rising : AllPairs (λ (i j : ℕ). i < j) places
  pub has : (k : ℕ) (d : Part Known) → Contains places k → (n : ℕ)
      × InSpan (slice_index_or parts k d).span n × Covers area res shape n
  pub all : (k n : ℕ) (d : Part Known) → k < length parts → InSpan (slice_index_or parts k d).span n
      → Covers area res shape n → Contains places k

-- the first piece lies inside the second, and has its value or was given so many groups
pub record IsPartLater (groups : ℕ) (part whole : Part Known) : Type 0 where
  pub from : whole.span.start ≤ part.span.start
  pub before : part.span.end ≤ whole.span.end
  pub value : (part.value ≡ whole.value) ⊎ (part.value.upto ≡ groups)

-- so it is with each of the new pieces and one of the old ones
abbrev pub ArePartsLater : ℕ → List (Part Known) → List (Part Known) → Type 0
ArePartsLater groups new old = (p : Part Known) → Contains new p → (q : Part Known) × Contains old q
    × IsPartLater groups p q
