-- Works of which little is kept: how many accesses a step may have on one cell, and on which queues.
use Rattle.std.specs.Prelude.{ℕ, ◌≡◌, ◌≤◌, List, Contains, None, length}
use Rattle.std.specs.List.{All}
use Rattle.sv_model.specs.Reports.{accesses_of, on_cell}
use Rattle.sv_model.specs.declared.work.Access.{Access}
use Rattle.sv_model.specs.declared.work.Cell.{Cell}
use Rattle.sv_model.specs.declared.work.Step.{Step}

-- no access of the step is in a subpass, each is of one of these queues, and at most so many are on one cell
pub record IsBoundedStep (queues : List ℕ) (most : ℕ) (step : Step) : Type 0 where
  pub subpasses : (a : Access) → Contains (accesses_of step) a → a.sub ≡ None
  pub on_queues : (a : Access) → Contains (accesses_of step) a → Contains queues a.queue
  pub few : (cell : Cell) → length (on_cell cell (accesses_of step)) ≤ most

abbrev pub IsBoundedWork : List ℕ → ℕ → List Step → Type 0
IsBoundedWork queues most work = All (IsBoundedStep queues most) work
