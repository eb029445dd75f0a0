use Rattle.std.proofs.Common.{◌++◌, ◌∷◌, [], List, Contains, length}
use Rattle.sv_model.specs.Reports.{spots_of}
use Rattle.sv_model.specs.declared.work.Access.{Access}
use Rattle.sv_model.specs.declared.work.Step.{Step}
use Rattle.sv_space.specs.AllLines.{AreAllCaught, AreLinesOf}
use Rattle.sv_space.specs.Found.{AreFound, IsOfFirst}
use Rattle.sv_space.specs.Known.{groups_in}
use Rattle.sv_space.specs.Marked.{IsStepOf}
use Rattle.sv_runs.specs.Runs.{AreRuns}
use Rattle.sv_space.proofs.touching.find_all.Given as goal

abbrev pub invariant-loop-access : goal.invariant-loop-access
invariant-loop-access l = record {
  runs : AreRuns l.reports;
  found : (work : List Step) (step : Step) → IsStepOf work step l.accesses l.groups
      → ((x : Access) → Contains l.accesses x → AreAllCaught x.area (length (groups_in work)) l.lines)
      → AreLinesOf work l.lines
      → AreFound (length work) (work ++ step ∷ []) (IsOfFirst l.access-index) (spots_of l.reports);
}
