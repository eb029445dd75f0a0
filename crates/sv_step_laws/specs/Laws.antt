-- What holds of the steps of a lawful trace, of numbered steps, and of the cells that are reported.
use Rattle.std.specs.Prelude.{ℕ, List}
use Rattle.std.specs.List.{All}
use Rattle.sv_model.specs.Cells.{IsCell}
use Rattle.sv_model.specs.Recordings.{compile}
use Rattle.sv_model.specs.Reports.{Spot, IsReportedFrom}
use Rattle.sv_model.specs.Lawful.{IsLawful}
use Rattle.sv_model.specs.Positions.{numbered_step}
use Rattle.sv_model.specs.declared.line.Trace.{Trace}
use Rattle.sv_model.specs.declared.work.Step.{Step}
use Rattle.sv_space.specs.Steps.{IsNext}
use Rattle.sv_step_laws.specs.Steps.{IsStepOf}

-- The steps of a recording of a lawful trace lie inside its resources.
abbrev pub LawfulStepsAreInside : Type 0
LawfulStepsAreInside = (t : Trace) (k : ℕ) → IsLawful t → All (IsStepOf t) (compile t k)

-- A numbered step has its number, and its accesses and transitions their positions.
abbrev pub NumberedStepsAreNext : Type 0
NumberedStepsAreNext = (n : ℕ) (s : Step) → IsNext n (numbered_step n s)

-- Where the steps lie inside the resources of a trace, each report is on a cell that the trace declares.
abbrev pub ReportedCellsAreDeclared : Type 0
ReportedCellsAreDeclared = (t : Trace) (steps : List Step) (s : Spot) → All (IsStepOf t) steps
    → IsReportedFrom 0 steps s → IsCell t s.cell
