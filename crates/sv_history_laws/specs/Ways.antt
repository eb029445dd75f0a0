-- A history goes on by one event: items are taken one after another, and their steps are added to the work.
use Rattle.std.specs.Prelude.{◌≡◌, ◌-◌, List, [], ◌∷◌, ◌++◌, None, Some, length}
use Rattle.sv_model.specs.Places.{Bound}
use Rattle.sv_model.specs.Holding.{past, Flow, Holding, arrived, flow, items_of, next}
use Rattle.sv_model.specs.Laws.{left_by_items}
use Rattle.sv_model.specs.Primitives.{Made}
use Rattle.sv_model.specs.Replies.{AreReplies, IsReply}
use Rattle.sv_model.specs.Standing.{Reaches}
use Rattle.sv_model.specs.Work.{bound_steps, given, made, numbered, work}
use Rattle.sv_model.specs.declared.line.Mark.{Mark}
use Rattle.sv_model.specs.declared.line.Trace.{Trace}
use Rattle.sv_model.specs.declared.work.Item.{Item}
use Rattle.sv_model.specs.declared.work.Reply.{Reply}
use Rattle.sv_model.specs.declared.work.Taken.{Taken}
use Rattle.sv_replies.specs.Replying.{IsReplySoFar}

-- the history with one event more
abbrev pub longer : List Mark → Mark → List Mark
longer history m = history ++ m ∷ []

-- Some items of the latest event were taken: the flow that they came to, and the steps that they added.
pub record IsWay (t : Trace) (history : List Mark) (m : Mark) (now : Flow) (more : List Bound) : Type 0 where
  pub way : Reaches t (arrived (flow t history) m) now
  pub grown : bound_steps t (longer history m) now.done ≡ work t history ++ more

-- what the items left
abbrev pub left_at : Trace → List Mark → Mark → Flow → Made
left_at t history m now = left_by_items t (longer history m) now.done

-- the item, which the latest event released
abbrev pub taken_now : Flow → Item → Taken
taken_now now item = record { item = item; event = length now.holding.events - 1 }

-- the flow after one more item
abbrev pub with_item : Flow → Item → Holding → Flow
with_item now item after = record { done = now.done ++ taken_now now item ∷ []; holding = after }

-- the steps that one more item adds
abbrev pub added : Trace → List Mark → Mark → Flow → List Bound → Item → List Bound
added t history m now more item = numbered (length (work t history ++ more))
    (given t (longer history m) (left_at t history m now) (taken_now now item))

-- The laws.

-- before any item of the event
pub record Begins (t : Trace) (history : List Mark) (m : Mark) : Type 0 where
  pub way : IsWay t history m (arrived (flow t history) m) []
  pub left : left_at t history m (arrived (flow t history) m) ≡ left_by_items t history (flow t history).done

-- after one more item
pub record GoesOn (t : Trace) (history : List Mark) (m : Mark) (now : Flow) (more : List Bound)
    (item : Item) (after : Holding) : Type 0 where
  pub way : IsWay t history m (with_item now item after) (more ++ added t history m now more item)
  pub left : left_at t history m (with_item now item after)
      ≡ made t (longer history m) (left_at t history m now) (taken_now now item)

-- after the last item
pub record Ends (t : Trace) (history : List Mark) (m : Mark) (now : Flow) (more : List Bound) : Type 0 where
  pub flow : now ≡ flow t (longer history m)
  pub work : work t (longer history m) ≡ work t history ++ more

abbrev pub WaysBegin : Type 0
WaysBegin = (t : Trace) (history : List Mark) (m : Mark) → Begins t history m

-- the gate's next item is the flow's
abbrev pub WaysGoOn : Type 0
WaysGoOn = (t : Trace) (history : List Mark) (m : Mark) (now : Flow) (more : List Bound) (item : Item)
    (after : Holding) → IsWay t history m now more
    → next t (past t now.holding.events (items_of now.done)) now.holding ≡ Some (item, after)
    → GoesOn t history m now more item after

abbrev pub WaysEnd : Type 0
WaysEnd = (t : Trace) (history : List Mark) (m : Mark) (now : Flow) (more : List Bound)
    → IsWay t history m now more
    → next t (past t now.holding.events (items_of now.done)) now.holding ≡ None → Ends t history m now more

-- on the way the events are those of the longer history
abbrev pub WaysHaveEvents : Type 0
WaysHaveEvents = (t : Trace) (history : List Mark) (m : Mark) (now : Flow) (more : List Bound)
    → IsWay t history m now more → now.holding.events ≡ longer history m

-- The reply so far is the reply to the event, once all of its items were taken.
abbrev pub RepliesAreWhole : Type 0
RepliesAreWhole = (t : Trace) (history : List Mark) (m : Mark) (more : List Bound) (reply : Reply)
    → work t (longer history m) ≡ work t history ++ more
    → IsReplySoFar t (length history) (work t history) more reply
    → IsReply t (longer history m) (length history) reply

-- With it the replies are those to the longer history.
abbrev pub RepliesGoOn : Type 0
RepliesGoOn = (t : Trace) (history : List Mark) (m : Mark) (replies : List Reply) (reply : Reply)
    → AreReplies t history replies → IsReply t (longer history m) (length history) reply
    → AreReplies t (longer history m) (replies ++ reply ∷ [])
