-- What contracts see of a book and of a share.
use Rattle.std.specs.Prelude.{ℕ, List, []}
use Rattle.atomic_table.specs.Seated.{TableId}
use Rattle.sv_model.specs.declared.line.Trace.{Trace}

pub record BookIs : Type 0 where
  pub board : TableId
  pub counts : List ℕ

pub record ShareIs : Type 0 where
  pub board : TableId
  pub actor : ℕ
  pub count : ℕ

abbrev pub book_is : TableId → List ℕ → BookIs
book_is board counts = record { board = board; counts = counts }

abbrev pub share_is : TableId → ℕ → ℕ → ShareIs
share_is board actor count = record { board = board; actor = actor; count = count }

-- the name of no board
abbrev pub no_board : TableId
no_board = record { words = 0; slots = 0; views_name = 0; atom = 0; block = 0; offset = 0; slot_names = [] }

-- the trace of nothing
abbrev pub no_trace : Trace
no_trace = record {
  queues = [];
  resources = [];
  semaphores = [];
  events = [];
  fences = [];
  passes = [];
  recordings = [];
  lane_scripts = [];
  recorder_scripts = [];
  text_order = [];
}
