-- What holds while an event is taken in.
use Rattle.std.specs.Prelude.{ℕ, ◌≡◌, List, Bool, true, false, length}
use Rattle.sv_model.specs.Lawful.{IsLawful}
use Rattle.sv_model.specs.declared.line.Mark.{Mark}
use Rattle.sv_model.specs.declared.line.Trace.{Trace}
use Rattle.sv_model.specs.declared.recorded.Event.{Event}
use Rattle.sv_processed.specs.Works.{WorkFits}
use Rattle.sv_history_laws.specs.Ways.{longer}
use Rattle.sv_core.specs.Marks.{IsOwn, mark_of}
use Rattle.sv_core.specs.Standing.{HasEnded, IsOnTheWay, StandsForHistory}
use Rattle.sv_core.specs.declared.parts.Parts.{Parts}

-- the parts stand for a history of a lawful trace, and what they keep lies inside its resources
pub record AreReady (t : Trace) (history : List Mark) (p : Parts) : Type 0 where
  pub lawful : IsLawful t
  pub fits : WorkFits t p.work
  pub stands : StandsForHistory t history p

abbrev pub AreReadyUnlessSpent : Bool → Trace → List Mark → Parts → Type 0
AreReadyUnlessSpent true t history p = Unit {0}
AreReadyUnlessSpent false t history p = AreReady t history p

-- the list is the history with the event, which has that number
pub record MayTakeIn (t : Trace) (list : List Mark) (number : ℕ) (e : Event) (p : Parts) : Type 0 where
  pub before : List Mark
  pub is : list ≡ longer before (mark_of e)
  pub at : number ≡ length before
  pub own : IsOwn t e
  pub ready : AreReady t before p

-- some items of the latest event were taken
pub record IsGoing (t : Trace) (list : List Mark) (number : ℕ) (p : Parts) : Type 0 where
  pub before : List Mark
  pub latest : Mark
  pub is : list ≡ longer before latest
  pub at : number ≡ length before
  pub lawful : IsLawful t
  pub fits : WorkFits t p.work
  pub way : IsOnTheWay t before latest p

-- all of them were taken
pub record HasCome (t : Trace) (list : List Mark) (number : ℕ) (p : Parts) : Type 0 where
  pub before : List Mark
  pub latest : Mark
  pub is : list ≡ longer before latest
  pub at : number ≡ length before
  pub lawful : IsLawful t
  pub fits : WorkFits t p.work
  pub ended : HasEnded t before latest p

-- one more item was taken, and fewer can still be taken; or none is enabled
abbrev pub GoesOnOrHasCome : Bool → Trace → List Mark → ℕ → Parts → Type 0
GoesOnOrHasCome true t list number p = IsGoing t list number p
GoesOnOrHasCome false t list number p = HasCome t list number p
