use Rattle.sv_runs.specs.Joined.{AreNoteRuns}
use Rattle.sv_cell_tests.proofs.runs.notes_in_runs.Given as goal

abbrev pub invariant-loop-said : goal.invariant-loop-said
invariant-loop-said l = AreNoteRuns l.notes
