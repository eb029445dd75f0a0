-- What holds of the flow while events come and items are taken.
use Rattle.std.specs.Prelude.{◌≡◌, List, [], ◌∷◌, ◌++◌, Some}
use Rattle.sv_model.specs.declared.line.Mark.{Mark}
use Rattle.sv_model.specs.declared.line.Trace.{Trace}
use Rattle.sv_model.specs.declared.work.Item.{Item}
use Rattle.sv_model.specs.Primitives.{Past}
use Rattle.sv_model.specs.Holding.{Holding, flow, next}
use Rattle.sv_model.specs.Laws.{left_by_items}

-- the events of a flow are those of its history
abbrev pub FlowHasItsEvents : Type 0
FlowHasItsEvents = (t : Trace) (history : List Mark) → (flow t history).holding.events ≡ history

-- taking an item leaves the events
abbrev pub TakingKeepsEvents : Type 0
TakingKeepsEvents = (t : Trace) (p : Past) (h : Holding) (x : Item) (rest : Holding) → next t p h
    ≡ Some (x, rest) → rest.events ≡ h.events

-- one more event changes nothing of what the items before it left
abbrev pub LaterEventsLeave : Type 0
LaterEventsLeave = (t : Trace) (history : List Mark) (m : Mark)
    → left_by_items t (history ++ m ∷ []) (flow t history).done
    ≡ left_by_items t history (flow t history).done
