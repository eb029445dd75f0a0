-- Steps that come next in a test, and the transitions of their groups.
use Rattle.std.specs.Prelude.{ℕ, ◌≡◌, None}
use Rattle.sv_model.specs.declared.line.Trace.{Trace}
use Rattle.sv_model.specs.declared.work.Access.{Access}
use Rattle.sv_model.specs.declared.work.Area.{Area}
use Rattle.sv_model.specs.declared.work.Step.{Step}
use Rattle.sv_step_laws.specs.Steps.{IsShortStep, IsStepOf}
use Rattle.sv_space.specs.Steps.{IsNext}

-- the step lies inside the resources of the trace, and has this number
pub record IsNextOf (t : Trace) (number : ℕ) (step : Step) : Type 0 where
  pub inside : IsStepOf t step
  pub short : IsShortStep step
  pub next : IsNext number step

-- the first transition of a step, of the cells of this area
pub record IsTransitionOn (area : Area) (number : ℕ) (a : Access) : Type 0 where
  pub area_is : a.area ≡ area
  pub layout : a.layout ≡ None
  pub step : a.step ≡ number
  pub pos : a.pos ≡ 0
