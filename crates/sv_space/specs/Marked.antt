-- A piece after an access of a step, which is recorded in it where no earlier access of the step touches it.
use Rattle.std.specs.Prelude.{ℕ, ◌≡◌, ◌<◌, List, [], ◌∷◌, ◌++◌, length, slice_index_or, take, Contains}
use Rattle.sv_model.specs.Reports.{accesses_of, groups_of}
use Rattle.sv_model.specs.declared.work.Access.{Access}
use Rattle.sv_model.specs.declared.work.Group.{Group}
use Rattle.sv_model.specs.declared.work.Step.{Step}
use Rattle.sv_rangemap.specs.Lines.{HaveSameSpans}
use Rattle.sv_rangemap.specs.declared.part.Part.{Part}
use Rattle.sv_space.specs.Cut.{Covers}
use Rattle.sv_space.specs.Known.{groups_in}
use Rattle.sv_space.specs.Pieces.{IsPieceOf, IsUniform}
use Rattle.sv_space.specs.Steps.{AreInOrder, IsNext}
use Rattle.sv_space.specs.declared.known.Known.{Known}
use Rattle.sv_space.specs.declared.line.Line.{Line}
use Rattle.sv_space.specs.declared.shape.Shape.{Shape}

-- none of the accesses touches the cell with this number
abbrev pub IsFree : List Access → ℕ → Shape → ℕ → Type 0
IsFree accesses res shape number = (x : Access) → Contains accesses x → ¬ Covers x.area res shape number

-- a work, and a step of these accesses and groups that comes next
pub record IsStepOf (work : List Step) (step : Step) (accesses : List Access)
    (groups : List Group) : Type 0 where
  pub steps : AreInOrder work
  pub next : IsNext (length work) step
  pub accesses_is : accesses ≡ accesses_of step
  pub groups_is : groups ≡ groups_of step

pub record IsMarked (accesses : List Access) (groups : List Group) (number res : ℕ) (shape : Shape)
    (old new : Part Known) : Type 0 where
  pub span : new.span ≡ old.span
  pub upto : new.value.upto ≡ old.value.upto
  pub busy : (x : Access) → Contains (take number accesses) x → Covers x.area res shape old.span.start → new
      ≡ old
  pub recorded : (work : List Step) (step : Step) → IsStepOf work step accesses groups → old.value.upto
      ≡ length (groups_in work) → IsFree (take number accesses) res shape old.span.start
      → IsUniform step res shape old.span → IsPieceOf work res shape old
      → IsPieceOf (work ++ step ∷ []) res shape new

-- so it is with each piece of a line that begins with a cell of the access with this number, and the others
-- are as they were
pub record IsLineMarked (accesses : List Access) (groups : List Group) (number : ℕ)
    (old new : Line) : Type 0 where
  pub spans : HaveSameSpans old.pieces.parts.items new.pieces.parts.items
  pub others : (k : ℕ) (x : Access) (d : Part Known) → k < length old.pieces.parts.items
      → ¬ Covers (slice_index_or accesses number x).area old.res old.shape
      (slice_index_or old.pieces.parts.items k d).span.start
      → slice_index_or new.pieces.parts.items k d ≡ slice_index_or old.pieces.parts.items k d
  pub marked : (k : ℕ) (x : Access) (d : Part Known) → k < length old.pieces.parts.items
      → Covers (slice_index_or accesses number x).area old.res old.shape
      (slice_index_or old.pieces.parts.items k d).span.start
      → IsMarked accesses groups number old.res old.shape (slice_index_or old.pieces.parts.items k d)
      (slice_index_or new.pieces.parts.items k d)
