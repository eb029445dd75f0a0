-- Dependencies that add nothing to what is reached, seen without their ranges.
use Rattle.std.specs.Prelude.{ℕ, ◌≡◌, ◌<◌, ◌≤◌, List, Contains, None}
use Rattle.sv_model.specs.Dependencies.{Placed, Starts, Enters}
use Rattle.sv_model.specs.Order.{Story}
use Rattle.sv_model.specs.declared.work.Access.{Access}
use Rattle.sv_model.specs.declared.work.Cell.{Cell}
use Rattle.sv_model.specs.declared.work.Dep.{Dep}
use Rattle.sv_model.specs.declared.work.Group.{Group}
use Rattle.sv_model.specs.declared.work.Track.{Track}
use Rattle.sv_model.specs.declared.work.Track.TheVariants.{Queue, Sub, Token}
use Rattle.sv_state.specs.Masks.{IsHeld, Mark, Gives, Reaches, Stands}
use Rattle.sv_state.specs.States.{live_of}
use Rattle.sv_state.specs.declared.entry.Entry.{Entry}
use Rattle.sv_state.specs.declared.reached.Reached.{Reached}
use Rattle.sv_state.specs.declared.state.CellState.{CellState}

-- a queue; all other tracks are as one
abbrev pub loose : Track → Track
loose (Queue q) = Queue q
loose (Sub q n i) = Token 0
loose (Token t) = Token 0

-- the dependency without its range, and without where it comes from, if that is no queue
abbrev pub outline : Dep → Dep
outline d = record {
  from = loose d.from;
  s1 = d.s1;
  a1 = d.a1;
  to = d.to;
  s2 = d.s2;
  a2 = d.a2;
  range = None;
}

-- at whichever step
abbrev pub Whenever : ℕ → Type 0
Whenever k = Unit {0}

-- if a chain from the access goes into n, then what n gives is reached without it
abbrev pub IsSaturated : List Placed → Cell → Access → Placed → Type 0
IsSaturated deps cell a n = Enters deps (Starts cell a) n → (k : Mark) → Gives cell n.dep k
    → Reaches deps cell a Whenever n.dep.to k

-- so it is with each dependency of a later group that has this outline, whatever the masks stand for
abbrev pub IsQuiet : Access → Reached → Dep → Type 0
IsQuiet a r d = (cell : Cell) (deps : List Placed) (step : ℕ) (n : Placed) → d ≡ outline n.dep → a.step
    < n.group.step → Stands cell a deps step r → IsSaturated deps cell a n

-- so it is for each entry, with dependencies of these outlines
abbrev pub AreQuiet : List Entry → List Dep → Type 0
AreQuiet entries outlines = (e : Entry) (d : Dep) → Contains entries e → Contains outlines d
    → IsQuiet e.access e.reached d

-- all that a dependency of this outline may give is reached
abbrev pub IsFull : Reached → Dep → Type 0
IsFull r d = (cell : Cell) (k : Mark) → Gives cell d k → IsHeld r d.to k

-- so it is for each entry, with dependencies of these outlines
abbrev pub AreFull : List Entry → List Dep → Type 0
AreFull entries outlines = (e : Entry) (d : Dep) → Contains entries e → Contains outlines d
    → IsFull e.reached d

-- where all that the outlines may give is reached, nothing is added
abbrev pub FullAreQuiet : Type 0
FullAreQuiet = (entries : List Entry) (outlines : List Dep) → AreFull entries outlines
    → AreQuiet entries outlines

-- none of the accesses is of a later step
abbrev pub AreUpTo : ℕ → List Entry → Type 0
AreUpTo step entries = (e : Entry) → Contains entries e → e.access.step ≤ step

-- the group adds nothing to the state, if it is later than its accesses
abbrev pub AddsNothing : CellState → Group → Type 0
AddsNothing state g = (e : Entry) (d : Dep) → Contains (live_of state) e → Contains g.deps d
    → IsQuiet e.access e.reached (outline d)

-- each of these dependencies is of a step from the state's on up to this one, and adds nothing to a state
-- that stands for the story
pub record ArePassed (story : Story) (step : ℕ) (state : CellState) (more : List Placed) : Type 0 where
  pub low : (n : Placed) → Contains more n → state.step ≤ n.group.step
  pub high : (n : Placed) → Contains more n → n.group.step ≤ step
  pub quiet : (n : Placed) (e : Entry) → Contains more n → Contains (live_of state) e
      → IsSaturated story.deps story.cell e.access n
