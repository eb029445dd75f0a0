-- What is known of the cells of a piece: the state after the work's accesses and its first groups.
use Rattle.std.specs.Prelude.{ℕ, ◌≡◌, ◌≤◌, List, length, take, drop, Contains, IsTrue, true, false}
use Rattle.std.specs.List.{flat_map, AllPairs}
use Rattle.sv_model.specs.Dependencies.{dependencies, AllAlike}
use Rattle.sv_model.specs.Order.{Story, extended}
use Rattle.sv_model.specs.Reports.{groups_of, story_of, IsCurrent}
use Rattle.sv_model.specs.declared.work.Cell.{Cell}
use Rattle.sv_model.specs.declared.work.Group.{Group}
use Rattle.sv_model.specs.declared.work.Step.{Step}
use Rattle.sv_space.specs.Meant.{StandsFor}
use Rattle.sv_state.specs.Contents.{Contents}

-- the groups of a work, in order
abbrev pub groups_in : List Step → List Group
groups_in work = flat_map groups_of work

-- what a work does to a cell, of its groups the first ones alone
abbrev pub cut_story : List Step → ℕ → Cell → Story
cut_story work upto cell = record {
  cell = cell;
  accesses = (story_of work cell).accesses;
  deps = dependencies (take upto (groups_in work));
}

-- the state stands for what the work does to the cell since its epoch began, of its groups the first ones
-- alone
pub record IsKnown (work : List Step) (upto : ℕ) (cell : Cell) (state : Contents) : Type 0 where
  pub epoch : ℕ
  pub current : IsCurrent (story_of work cell) epoch
  pub stands : StandsFor (cut_story work upto cell) epoch state

-- no range of these groups tells the two cells apart
abbrev pub AreAlike : List Group → Cell → Cell → Type 0
AreAlike groups c e = (g : Group) → Contains groups g → AllAlike g c e

-- the state stands for each of these cells, and no group that it was not given yet tells two of them apart
pub record AreKnown (work : List Step) (Holds : Cell → Type 0) (upto : ℕ) (state : Contents) : Type 0 where
  pub within : upto ≤ length (groups_in work)
  pub up_to : state.step ≤ length work
  pub after : (g : Group) → Contains (drop upto (groups_in work)) g → state.step ≤ g.step
  pub each : (cell : Cell) → Holds cell → IsKnown work upto cell state
  pub alike : (c e : Cell) → Holds c → Holds e → AreAlike (drop upto (groups_in work)) c e

-- the state went through the groups on the cell at, which is right on every cell that none of them tells
-- from it
pub record HasGone (at : Cell) (groups : List Group) (old new : Contents) : Type 0 where
  pub stands : (story : Story) (epoch : ℕ) → AreAlike groups at story.cell → StandsFor story epoch old
      → StandsFor (extended story (dependencies groups)) epoch new
  pub up_to : (n : ℕ) → old.step ≤ n → ((g : Group) → Contains groups g → g.step ≤ n) → new.step ≤ n

-- the groups may be given, in their order, to a state that has come to this step
pub record MayFollow (step : ℕ) (groups : List Group) : Type 0 where
  pub after : (g : Group) → Contains groups g → step ≤ g.step
  pub in_order : AllPairs (λ (g h : Group). g.step ≤ h.step) groups

-- where none are the same, those that are the same are equal
pub none_same : {A : Type 0} (a b : A) → IsTrue false → a ≡ b
none_same a b same = absurd (let f : false ≡ true = same in cc)
