-- What the checks of a work stand for: its steps so far.
use Rattle.std.specs.Prelude.{◌≡◌, List, length}
use Rattle.sv_model.specs.Places.{Bound}
use Rattle.sv_model.specs.ReplyLaws.{before_end}
use Rattle.sv_model.specs.declared.line.Trace.{Trace}
use Rattle.sv_model.specs.declared.work.Step.{Step}
use Rattle.sv_layout.specs.Layouts as layouts
use Rattle.sv_owner.specs.Owners as owners
use Rattle.sv_space.specs.Space as space
use Rattle.sv_space.specs.Steps.{AreInOrder}
use Rattle.sv_replies.specs.Replying.{steps_in}
use Rattle.sv_steps.specs.declared.checks.Checks.{Checks}

-- the checks are on the resources of the trace
pub record HaveAreas (t : Trace) (c : Checks) : Type 0 where
  pub space : space.HasResources t c.space
  pub layouts : layouts.HasImages t c.layouts
  pub owners : owners.HasResources t c.owners

-- the step may be taken
pub record Fits (c : Checks) (step : Step) : Type 0 where
  pub space : space.Fits c.space step
  pub layouts : layouts.Fits c.layouts step
  pub owners : owners.Fits c.owners step

-- the space, the layouts and the owners are those after these steps
pub record StandForSteps (t : Trace) (steps : List Bound) (c : Checks) : Type 0 where
  pub count : c.steps ≡ length steps
  pub in_order : AreInOrder (steps_in steps)
  pub space : space.IsSpaceOf c.space (steps_in steps)
  pub layouts : layouts.IsLayoutsOf t (before_end t steps).moved c.layouts
  pub owners : owners.IsOwnersOf t (before_end t steps).actions c.owners
