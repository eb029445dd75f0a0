-- Patterns of groups, and of which pattern each group of a log is.
use Rattle.std.specs.Prelude.{ℕ, ◌≡◌, ◌<◌, ◌≤◌, ◌+◌, ◌*◌, ◌/◌, ◌%◌, List, length, slice_index_or, Contains}
use Rattle.sv_mask.specs.Sets.{Has, Includes}
use Rattle.sv_model.specs.declared.work.Dep.{Dep}
use Rattle.sv_model.specs.declared.work.Group.{Group}
use Rattle.sv_state.specs.Outlines.{AreFull, AreQuiet, outline}
use Rattle.sv_state.specs.States.{live_of}
use Rattle.sv_state.specs.declared.state.CellState.{CellState}
use Rattle.sv_space.specs.declared.marks.Block.{Block}
use Rattle.sv_space.specs.declared.passing.Asked.{Asked}
use Rattle.sv_space.specs.declared.pattern.Pattern.{Pattern}

-- so many patterns have numbers at most
abbrev pub most : ℕ
most = 63

-- the outlines of these dependencies are listed
abbrev pub HasOutlines : List Dep → List Dep → Type 0
HasOutlines outlines deps = (d : Dep) → Contains deps d → Contains outlines (outline d)

-- a number below the limit is that of the pattern of a group with these dependencies
pub record IsPatternOf (patterns : List Pattern) (number : ℕ) (deps : List Dep) : Type 0 where
  pub listed : number < most → number < length patterns
  pub has : (p : Pattern) → number < most → HasOutlines (slice_index_or patterns number p).outlines.items deps

-- a block has the number of the place with this number in the block, if it is that of a pattern, and else the
-- place
pub record Tells (block : Block) (spot number : ℕ) : Type 0 where
  pub pattern : number < most → Has block.patterns number
  pub lone : most ≤ number → Has block.lone spot

-- so it is with each place
pub record AreMarked (numbers : List ℕ) (blocks : List Block) : Type 0 where
  pub room : length numbers ≤ 64 * length blocks
  pub told : (j d : ℕ) (e : Block) → j < length numbers → Tells (slice_index_or blocks (j / 64) e) (j % 64)
      (slice_index_or numbers j d)

-- the first groups are of the patterns with these numbers
pub record HavePatterns (groups : List Group) (patterns : List Pattern) (numbers : List ℕ)
    (blocks : List Block) : Type 0 where
  pub short : length numbers ≤ length groups
  pub each : (j d : ℕ) (g : Group) → j < length numbers
      → IsPatternOf patterns (slice_index_or numbers j d) (slice_index_or groups j g).deps
  pub marked : AreMarked numbers blocks

-- the new block has all that the old one has
pub record HasAll (old new : Block) : Type 0 where
  pub patterns : (n : ℕ) → Has old.patterns n → Has new.patterns n
  pub lone : (n : ℕ) → Has old.lone n → Has new.lone n

-- no block of the list loses a number or a place
abbrev pub KeepMarks : List Block → List Block → Type 0
KeepMarks old new = (k : ℕ) (e : Block) → k < length old
    → HasAll (slice_index_or old k e) (slice_index_or new k e)

-- the first patterns are as they were
pub record AreMore (old new : List Pattern) : Type 0 where
  pub long : length old ≤ length new
  pub same : (k : ℕ) (p : Pattern) → k < length old → slice_index_or new k p ≡ slice_index_or old k p

-- the number is that of a pattern of which no later group adds anything to the state
pub record IsQuietPattern (state : CellState) (patterns : List Pattern) (number : ℕ) : Type 0 where
  pub pattern : Pattern
  pub small : number < most
  pub here : slice_index_or patterns number pattern ≡ pattern
  pub quiet : AreQuiet (live_of state) pattern.outlines.items

-- so it is with each number of a set
abbrev pub AreQuietPatterns : CellState → List Pattern → ℕ → Type 0
AreQuietPatterns state patterns set = (n : ℕ) → Has set n → IsQuietPattern state patterns n

-- the number is that of a pattern of which the state holds all that its groups may give
pub record IsFullPattern (state : CellState) (patterns : List Pattern) (number : ℕ) : Type 0 where
  pub pattern : Pattern
  pub small : number < most
  pub here : slice_index_or patterns number pattern ≡ pattern
  pub full : AreFull (live_of state) pattern.outlines.items

-- so it is with each number of a set
abbrev pub AreFullPatterns : CellState → List Pattern → ℕ → Type 0
AreFullPatterns state patterns set = (n : ℕ) → Has set n → IsFullPattern state patterns n

-- what was found of the patterns that were asked for is so
pub record AreAsked (state : CellState) (patterns : List Pattern) (asked : Asked) : Type 0 where
  pub quiet : AreQuietPatterns state patterns asked.quiet
  pub full : AreFullPatterns state patterns asked.full

-- so many places of a block, from this one on, have patterns, and the patterns of the block are in the set
pub record IsQuietPart (spot count : ℕ) (block : Block) (set : ℕ) : Type 0 where
  pub includes : Includes set block.patterns
  pub clear : (k : ℕ) → spot ≤ k → k < spot + count → ¬ Has block.lone k

-- from one place up to another, as far as there are numbers, they are those of patterns of which nothing is
-- added to the state
abbrev pub AreQuietFrom : ℕ → ℕ → CellState → List Pattern → List ℕ → Type 0
AreQuietFrom from end state patterns numbers = (j d : ℕ) → from ≤ j → j < end → j < length numbers
    → IsQuietPattern state patterns (slice_index_or numbers j d)
