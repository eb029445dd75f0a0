use Rattle.std.proofs.Common.{◌≡◌, ◌++◌, ◌∷◌, [], List, Contains, length}
use Rattle.std.specs.Option.{option_copied}
use Rattle.sv_model.specs.Dependencies.{own_deps}
use Rattle.sv_model.specs.Reports.{accesses_of, groups_of, spots_of}
use Rattle.sv_model.specs.declared.work.Step.{Step}
use Rattle.sv_space.specs.Cut.{IsCaughtFor}
use Rattle.sv_space.specs.Found.{AreFound, IsOfFirst}
use Rattle.sv_space.specs.Known.{groups_in}
use Rattle.sv_space.specs.Own.{own_of}
use Rattle.sv_space.specs.Pieces.{IsLineOf}
use Rattle.sv_runs.specs.Runs.{AreRuns}
use Rattle.sv_space.specs.Steps.{AreInOrder, IsNext}
use Rattle.sv_space.proofs.FoundIn.{IsPastIn}
use Rattle.sv_space.proofs.finding.find.Given as goal

abbrev pub invariant-loop-place : goal.invariant-loop-place
invariant-loop-place l = record {
  runs : AreRuns l.reports;
  found : (work : List Step) (step : Step) → AreInOrder work → IsNext (length work) step
      → Contains (accesses_of step) l.access
      → own_deps (option_copied l.group) ≡ own_of (groups_of step) l.access
      → IsCaughtFor l.access.area (length (groups_in work)) l.line.res l.line.shape l.line.pieces.parts.items
      → IsLineOf work l.line.res l.line.shape l.line.pieces.parts.items
      → AreFound (length work) (work ++ step ∷ []) (IsOfFirst l.access.pos) (spots_of l.fn.reports)
      → AreFound (length work) (work ++ step ∷ [])
      (IsPastIn l.line.res l.line.shape l.line.pieces.parts.items l.list l.access.pos l.place-index)
      (spots_of l.reports);
}
