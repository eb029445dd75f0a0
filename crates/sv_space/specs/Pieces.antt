-- What the pieces of a line stand for.
use Rattle.std.specs.Prelude.{ℕ, ◌≡◌, ◌≤◌, ◌<◌, List, [], length, slice_index_or}
use Rattle.sv_model.specs.Reports.{accesses_of, groups_of, on_cell}
use Rattle.sv_model.specs.declared.work.Cell.{Cell}
use Rattle.sv_model.specs.declared.work.Step.{Step}
use Rattle.sv_range.specs.declared.span.Span.{Span}
use Rattle.sv_rangemap.specs.declared.part.Part.{Part}
use Rattle.sv_space.specs.Known.{AreAlike, AreKnown}
use Rattle.sv_space.specs.Lines.{IsOf}
use Rattle.sv_space.specs.declared.known.Known.{Known}
use Rattle.sv_space.specs.declared.line.Line.{Line}
use Rattle.sv_space.specs.declared.shape.Shape.{Shape}

-- what is kept of a piece stands for each of its cells
abbrev pub IsPieceOf : List Step → ℕ → Shape → Part Known → Type 0
IsPieceOf work res shape p = AreKnown work (IsOf res shape p.span) p.value.upto p.value.state

-- no piece was given more groups than so many
abbrev pub AreWithin : ℕ → List (Part Known) → Type 0
AreWithin groups parts = (k : ℕ) (d : Part Known) → k < length parts → (slice_index_or parts k d).value.upto
    ≤ groups

-- what is kept of each piece of the line stands for its cells
abbrev pub IsLineOf : List Step → ℕ → Shape → List (Part Known) → Type 0
IsLineOf work res shape parts = (k : ℕ) (d : Part Known) → k < length parts
    → IsPieceOf work res shape (slice_index_or parts k d)

-- the line is of the same resource
pub record IsSameLine (old new : Line) : Type 0 where
  pub res : new.res ≡ old.res
  pub shape : new.shape ≡ old.shape
  pub size : new.pieces.size ≡ old.pieces.size

-- the same accesses of the step touch each cell of the span, and its groups tell no two of them apart
pub record IsUniform (step : Step) (res : ℕ) (shape : Shape) (span : Span) : Type 0 where
  pub accesses : (c e : Cell) → IsOf res shape span c → IsOf res shape span e → on_cell c (accesses_of step)
      ≡ on_cell e (accesses_of step)
  pub groups : (c e : Cell) → IsOf res shape span c → IsOf res shape span e → AreAlike (groups_of step) c e

-- nothing was done yet to the cells of the line, which are one piece
pub record IsFresh (line : Line) : Type 0 where
  pub within : AreWithin 0 line.pieces.parts.items
  pub stands : IsLineOf [] line.res line.shape line.pieces.parts.items
  pub one : length line.pieces.parts.items ≡ 1
