use Rattle.sv_runs.specs.Runs.{AreRuns}
use Rattle.sv_cell_tests.proofs.runs.reports_in_runs.Given as goal

abbrev pub invariant-loop-race : goal.invariant-loop-race
invariant-loop-race l = AreRuns l.reports
