-- What the parts of the validator stand for: a history, and while the items of its latest event are taken,
-- a state on the way.
use Rattle.std.specs.Prelude.{List, length}
use Rattle.sv_model.specs.Places.{Bound}
use Rattle.sv_model.specs.Holding.{Flow, flow}
use Rattle.sv_model.specs.Laws.{left_by_items}
use Rattle.sv_model.specs.Replies.{IsReply}
use Rattle.sv_model.specs.Work.{work}
use Rattle.sv_model.specs.declared.line.Mark.{Mark}
use Rattle.sv_model.specs.declared.line.Trace.{Trace}
use Rattle.sv_gate.specs.Gates.{IsGateOf}
use Rattle.sv_steps.specs.Checked.{StandForSteps}
use Rattle.sv_processed.specs.Works.{IsAt, IsLeft}
use Rattle.sv_history_laws.specs.Ways.{IsWay, left_at, longer}
use Rattle.sv_batch.specs.Running.{ArePublished}
use Rattle.sv_core.specs.declared.parts.Parts.{Parts}

-- The refinement: the parts stand for a history. The gate holds what is held after it, the recordings are
-- those that it published, and semaphores, fences, events, space, layouts and owners are as its processed
-- items left them.
pub record StandsForHistory (t : Trace) (history : List Mark) (p : Parts) : Type 0 where
  pub gate : IsGateOf t (flow t history).holding p.gate
  pub recordings : ArePublished t history p.recordings
  pub left : IsLeft t (left_by_items t history (flow t history).done) p.work
  pub steps : StandForSteps t (work t history) p.work.checks

-- On the way from a history to the next: items of the latest event were taken, and the parts stand for the
-- flow that they came to.
pub record IsOnTheWay (t : Trace) (history : List Mark) (m : Mark) (p : Parts) : Type 0 where
  pub now : Flow
  pub more : List Bound
  pub way : IsWay t history m now more
  pub gate : IsGateOf t now.holding p.gate
  pub recordings : ArePublished t (longer history m) p.recordings
  pub at : IsAt t (length history) (work t history) more (left_at t history m now) p.work

-- the parts stand for the longer history, and the reply that they hold is the one to its latest event
pub record HasEnded (t : Trace) (history : List Mark) (m : Mark) (p : Parts) : Type 0 where
  pub stands : StandsForHistory t (longer history m) p
  pub reply : IsReply t (longer history m) (length history) p.work.checks.reply
