-- Events and stops.
use Rattle.std.specs.Prelude.{ℕ, ◌≡◌, List, [], ◌∷◌, ◌++◌, Bool, true, false}
use Rattle.sv_model.specs.History.{IsHistory}
use Rattle.sv_model.specs.declared.line.Mark.{Mark}
use Rattle.sv_model.specs.declared.line.Mark.TheVariants as mark
use Rattle.sv_model.specs.declared.line.Trace.{Trace}
use Rattle.sv_model.specs.declared.recorded.Event.{Event}
use Rattle.sv_model.specs.declared.recorded.Event.TheVariants as event
use Rattle.sv_core.specs.declared.stop.Stop.{Stop}
use Rattle.sv_core.specs.declared.stop.Stop.TheVariants as stop

abbrev pub mark_of : Event → Mark
mark_of (event.Publish r) = mark.Publish r.number
mark_of (event.Call lane index) = mark.Call lane index

-- the event is the next one of its actor: the longer list is a history
abbrev pub IsNextEvent : Trace → List Mark → Event → Type 0
IsNextEvent t history e = IsHistory t (history ++ mark_of e ∷ [])

-- a recording in it is of that trace
abbrev pub IsOwn : Trace → Event → Type 0
IsOwn t (event.Publish r) = r.of.value ≡ t
IsOwn t (event.Call lane index) = Unit {0}

-- a validator that was spent says since which event, and one that was not ran out of memory
abbrev pub IsStop : ℕ → Bool → Stop → Type 0
IsStop number true (stop.Spent s) = s.number ≡ number
IsStop number true stop.Memory = ⊥
IsStop number false (stop.Spent s) = ⊥
IsStop number false stop.Memory = Unit {0}
