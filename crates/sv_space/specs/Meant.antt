-- What contracts see of what is known of a piece: what its state holds, and how many groups it was given.
use Rattle.std.specs.Prelude.{ℕ, ◌≡◌}
use Rattle.sv_model.specs.Order.{Story}
use Rattle.sv_state.specs.Contents.{Contents, contents_of}
use Rattle.sv_state.specs.States as state
use Rattle.sv_state.specs.declared.state.CellState.{CellState}

pub record Meant : Type 0 where
  pub state : Contents
  pub upto : ℕ

-- a state that holds this stands for a story of which an epoch begins at this step
abbrev pub StandsFor : Story → ℕ → Contents → Type 0
StandsFor story epoch contents = (s : CellState) → contents_of s ≡ contents → state.StandsFor story epoch s
