-- A step that the cells of a trace take.
use Rattle.std.proofs.Common.{ℕ, [], List}
use Rattle.sv_model.specs.Layouts.{moved_after}
use Rattle.sv_model.specs.Owners.{acted_after}
use Rattle.sv_model.specs.declared.line.Trace.{Trace}
use Rattle.sv_model.specs.declared.work.Step.{Step}
use Rattle.sv_layout.specs.Layouts as layouts
use Rattle.sv_layout.specs.declared.layouts.Layouts.{Layouts}
use Rattle.sv_owner.specs.Owners as owners
use Rattle.sv_owner.specs.declared.owners.Owners.{Owners}
use Rattle.sv_space.specs.Space as space
use Rattle.sv_space.specs.declared.space.Space.{Space}
use Rattle.sv_steps.specs.Checked.{Fits, HaveAreas}
use Rattle.sv_steps.specs.declared.checks.Checks.{Checks}
use Rattle.sv_steps.proofs.Inside.{step_fits}
use Rattle.sv_steps.proofs.Taken.{areas_kept}
use Rattle.sv_cell_tests.specs.NextSteps.{IsNextOf}
use Rattle.sv_cell_tests.specs.Standing.{AreCellsOf}

-- the three as the checks of a work, of which nothing else matters here
abbrev pub checks_of : Space → Layouts → Owners → Checks
checks_of s l o = record {
  space = s;
  layouts = l;
  owners = o;
  steps = 0;
  reply = record { reports = []; notes = [] };
}

areas_of : (t : Trace) (s : Space) (l : Layouts) (o : Owners) → AreCellsOf t s l o
    → HaveAreas t (checks_of s l o)
areas_of t s l o are = record { space = are.areas; layouts = are.images; owners = are.resources }

pub may_take : (t : Trace) (s : Space) (l : Layouts) (o : Owners) (n : ℕ) (step : Step) → AreCellsOf t s l o
    → IsNextOf t n step → Fits (checks_of s l o) step
may_take t s l o n step are is = step_fits t are.lawful (checks_of s l o)
    (areas_of t s l o are) n step is.next is.inside is.short

pub taken : (t : Trace) (s s' : Space) (l l' : Layouts) (o o' : Owners) (step : Step)
    (are : AreCellsOf t s l o) → space.KeepsAreas s s' → layouts.KeepsImages l l'
    → owners.KeepsResources o o'
    → layouts.IsLayoutsOf t (moved_after are.moved step) l'
    → owners.IsOwnersOf t (acted_after t are.actions step) o' → AreCellsOf t s' l' o'
taken t s s' l l' o o' step are areas images resources layouts_are owners_are =
    let kept = areas_kept t (checks_of s l o) (checks_of s' l' o') areas images resources
    (areas_of t s l o are) in record {
      lawful = are.lawful;
      areas = kept.space;
      images = kept.layouts;
      resources = kept.owners;
      moved = moved_after are.moved step;
      layouts_are = layouts_are;
      actions = acted_after t are.actions step;
      owners_are = owners_are;
    }
