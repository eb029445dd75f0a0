-- What a device keeps, and what it answers.
use Rattle.std.specs.Prelude.{ℕ, ◌≡◌, ◌≤◌, List, Option, Some, length, slice_get, slice_index}
use Rattle.atomic_table.specs.Seated.{TableId}
use Rattle.sv_model.specs.declared.line.Mark.{Mark}
use Rattle.sv_model.specs.declared.line.Trace.{Trace}
use Rattle.sv_model.specs.History.{IsHistory, IsWhole}
use Rattle.sv_model.specs.Lawful.{IsLawful}
use Rattle.sv_model.specs.Replies.{IsReply}
use Rattle.sv_core.specs.State.{State}
use Rattle.sv_core.specs.declared.stop.Stop.{Stop}
use Rattle.sv_core.specs.declared.stop.Stop.TheVariants as stop
use Rattle.sv_share.specs.Values.{BookIs, ShareIs, share_is}
use Rattle.sv_share.specs.declared.case.Receipt.{Receipt}
use Rattle.sv_device.specs.Actors.{actors_of, events_of, script_of}
use Rattle.sv_device.specs.declared.who.Who.{Who}

-- the count of each actor is the number of its events in the history
abbrev pub Counts : Trace → List ℕ → List Mark → Type 0
Counts t counts history = (index : ℕ) (who : Who) → slice_get (actors_of t) index ≡ Some who
    → slice_index counts index ≡ length (events_of t who history)

-- What lies under the lock: the validator of the trace, and a book of the board with the counts of the
-- history.
pub record IsKept (t : Trace) (named : TableId) (validator : State) (book : BookIs) : Type 0 where
  pub lawful : IsLawful t
  pub trace : validator.trace ≡ t
  pub board : book.board ≡ named
  pub wide : length book.counts ≡ 32
  pub counts : Counts t book.counts validator.history

-- An actor of the trace, with its share of the board, whose count is its place.
pub record IsActor (t : Trace) (named : TableId) (who : Who) (index place count : ℕ)
    (held : Option ShareIs) : Type 0 where
  pub lawful : IsLawful t
  pub actor : slice_get (actors_of t) index ≡ Some who
  pub long : count ≡ length (script_of t who)
  pub within : place ≤ count
  pub share : held ≡ Some (share_is named index place)

-- a reply is the one of its number in some history of the trace, in which the event stands there
pub record IsReceipt (t : Trace) (m : Mark) (r : Receipt) : Type 0 where
  pub history : List Mark
  pub is_history : IsHistory t history
  pub stands : slice_get history r.number ≡ Some m
  pub reply : IsReply t history r.number r.reply

-- what a validator of the trace stopped for: the number is that of the event which lacked memory, behind a
-- history without it
abbrev pub IsStopIn : Trace → Stop → Type 0
IsStopIn t stop.Memory = Unit {0}
IsStopIn t (stop.Spent s) = (history : List Mark) × IsHistory t history × (s.number ≡ length history)
    × (IsWhole t history → ⊥)
