-- What holds of the items that the device queues hold: they come from submits whose recordings are published.
use Rattle.std.specs.Prelude.{ℕ, ◌≡◌, ◌<◌, List, [], Some, IsTrue, length, slice_get, slice_index_or}
use Rattle.std.specs.List.{All, list_all}
use Rattle.sv_model.specs.Declarations.{is_fence}
use Rattle.sv_model.specs.Holding.{is_published, past, Came, Flow, Holding, items_of, next}
use Rattle.sv_model.specs.History.{batch_at}
use Rattle.sv_model.specs.Lawful.{IsLawful}
use Rattle.sv_model.specs.declared.line.Mark.{Mark}
use Rattle.sv_model.specs.declared.line.Mark.TheVariants as mark
use Rattle.sv_model.specs.declared.line.Trace.{Trace}
use Rattle.sv_model.specs.declared.work.Item.{Item}
use Rattle.sv_model.specs.declared.work.Item.TheVariants as item
use Rattle.sv_history_laws.specs.Ways.{IsWay}
use Rattle.sv_model.specs.Places.{Bound}

-- the recordings of the batch are published
pub record IsSent (t : Trace) (events : List Mark) (event batch : ℕ) : Type 0 where
  pub came : event < length events
  pub published : IsTrue (list_all (is_published events) (batch_at t events event batch).recs)

abbrev pub IsQueued : Trace → List Mark → Item → Type 0
IsQueued t events (item.Batch queue event batch) = IsSent t events event batch
IsQueued t events (item.Fence queue event fence) = IsTrue (is_fence t fence)
IsQueued t events (item.Call lane index) = Unit {0}

-- the call came as that event
abbrev pub IsCame : List Mark → ℕ → Came → Type 0
IsCame events lane x = slice_get events x.event ≡ Some (mark.Call lane x.index)

pub record IsHeldWell (t : Trace) (h : Holding) : Type 0 where
  pub lanes : (lane : ℕ) → All (IsCame h.events lane) (slice_index_or h.lanes lane [])
  pub queues : (queue : ℕ) → All (IsQueued t h.events) (slice_index_or h.queues queue [])

-- On the way of a lawful trace each item that is taken from a queue is such a one.
abbrev pub TakenAreQueued : Type 0
TakenAreQueued = (t : Trace) (history : List Mark) (m : Mark) (now : Flow) (more : List Bound) (x : Item)
    (after : Holding) → IsLawful t → IsWay t history m now more
    → next t (past t now.holding.events (items_of now.done)) now.holding ≡ Some (x, after)
    → IsQueued t now.holding.events x
