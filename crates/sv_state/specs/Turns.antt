-- Runs in the order of their numbers.
use Rattle.std.specs.Prelude.{ℕ, ◌<◌, ◌≤◌, ◌-◌, List, length, slice_index_or, Contains}
use Rattle.std.specs.List.{All, AllPairs}
use Rattle.sv_mask.specs.Sets.{Has}
use Rattle.sv_state.specs.declared.runs.Run.{Run}

-- each run ends before the later ones begin
abbrev pub AreInTurn : List Run → Type 0
AreInTurn runs = AllPairs (λ (r s : Run). r.last < s.first) runs

-- each run has a number
abbrev pub HaveNumbers : List Run → Type 0
HaveNumbers runs = All (λ (r : Run). r.first ≤ r.last) runs

-- each run ends before the number
abbrev pub EndBefore : ℕ → List Run → Type 0
EndBefore number runs = All (λ (r : Run). r.last < number) runs

-- the last run, if there is one, does not end behind the number
abbrev pub EndBy : ℕ → List Run → Type 0
EndBy number runs = (d : Run) → 0 < length runs → (slice_index_or runs (length runs - 1) d).last ≤ number

-- there is a last run, and it does not end before the number
pub record Reach (number : ℕ) (runs : List Run) : Type 0 where
  pub some : 0 < length runs
  pub last : (d : Run) → number ≤ (slice_index_or runs (length runs - 1) d).last

-- some run has the stage
abbrev pub SomeHas : List Run → ℕ → Type 0
SomeHas runs s = (r : Run) × Contains runs r × Has r.stages.0 s

-- these are the stages of all runs together
pub record IsUnion (stages : ℕ) (runs : List Run) : Type 0 where
  pub only : (s : ℕ) → Has stages s → ¬ (¬ SomeHas runs s)
  pub all : (s : ℕ) (r : Run) → Contains runs r → Has r.stages.0 s → Has stages s
