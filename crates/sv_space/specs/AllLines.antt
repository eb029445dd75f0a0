-- All lines of a space.
use Rattle.std.specs.Prelude.{ℕ, ◌≡◌, ◌<◌, List, length, slice_index_or, Contains, Some}
use Rattle.sv_model.specs.declared.work.Access.{Access}
use Rattle.sv_model.specs.declared.work.Area.{Area}
use Rattle.sv_model.specs.declared.work.Dep.{Dep}
use Rattle.sv_model.specs.declared.work.Group.{Group}
use Rattle.sv_model.specs.declared.work.Step.{Step}
use Rattle.sv_rangemap.specs.Lines.{ArePartsOf}
use Rattle.sv_space.specs.Cut.{ArePartsLater, IsCaughtFor, IsCutFor}
use Rattle.sv_space.specs.Lines.{LiesOn}
use Rattle.sv_space.specs.Pieces.{AreWithin, IsFresh, IsLineOf, IsSameLine}
use Rattle.sv_space.specs.declared.line.Line.{Line}

-- the area is of cells of the line
abbrev pub LiesAt : Line → Area → Type 0
LiesAt line area = LiesOn line.res line.shape line.pieces.size area

abbrev pub LiesIn : List Line → Area → Type 0
LiesIn lines area = (k : ℕ) × (k < length lines) × ((d : Line) → LiesAt (slice_index_or lines k d) area)

abbrev pub LieIn : List Line → List Access → Type 0
LieIn lines accesses = (x : Access) → Contains accesses x → LiesIn lines x.area

-- the area is what a dependency of one of these groups is limited to
pub record IsRangeOf (groups : List Group) (area : Area) : Type 0 where
  pub group : Group
  pub dep : Dep
  pub listed : Contains groups group
  pub in_group : Contains group.deps dep
  pub is : dep.range ≡ Some area

-- the lines are of the same resources
pub record AreSameLines (old new : List Line) : Type 0 where
  pub long : length new ≡ length old
  pub same : (k : ℕ) (d : Line) → IsSameLine (slice_index_or old k d) (slice_index_or new k d)

-- what is kept of each line stands for the work
abbrev pub AreLinesOf : List Step → List Line → Type 0
AreLinesOf work lines = (k : ℕ) (d : Line) → k < length lines
    → IsLineOf work (slice_index_or lines k d).res (slice_index_or lines k d).shape
    (slice_index_or lines k d).pieces.parts.items

-- no piece was given more groups than so many
abbrev pub AreAllWithin : ℕ → List Line → Type 0
AreAllWithin groups lines = (k : ℕ) (d : Line) → k < length lines
    → AreWithin groups (slice_index_or lines k d).pieces.parts.items

abbrev pub AreAllLater : ℕ → List Line → List Line → Type 0
AreAllLater groups new old = (k : ℕ) (d : Line) → k < length old
    → ArePartsLater groups (slice_index_or new k d).pieces.parts.items
    (slice_index_or old k d).pieces.parts.items

abbrev pub AreAllPartsOf : List Line → List Line → Type 0
AreAllPartsOf new old = (k : ℕ) (d : Line) → k < length old
    → ArePartsOf (slice_index_or new k d).pieces.parts.items (slice_index_or old k d).pieces.parts.items

-- the pieces of each line are cut for the area
abbrev pub AreAllCut : Area → List Line → Type 0
AreAllCut area lines = (k : ℕ) (d : Line) → k < length lines
    → IsCutFor area (slice_index_or lines k d).res (slice_index_or lines k d).shape
    (slice_index_or lines k d).pieces.parts.items

abbrev pub AreAllCaught : Area → ℕ → List Line → Type 0
AreAllCaught area groups lines = (k : ℕ) (d : Line) → k < length lines
    → IsCaughtFor area groups (slice_index_or lines k d).res (slice_index_or lines k d).shape
    (slice_index_or lines k d).pieces.parts.items

-- nothing was done yet to any cell
abbrev pub AreFresh : List Line → Type 0
AreFresh lines = (k : ℕ) (d : Line) → k < length lines → IsFresh (slice_index_or lines k d)
