use Rattle.std.proofs.Common.{◌≡◌, ℕ, get_or, map, take}
use Rattle.sv_model.specs.Notes.{cells_of_notes}
use Rattle.sv_runs.specs.Joined.{AreNoteRuns}
use Rattle.sv_runs.specs.Grouped.{moved}
use Rattle.sv_runs.proofs.grouped_notes.group_notes.Given as goal

abbrev pub invariant-loop-note : goal.invariant-loop-note
invariant-loop-note l = record {
  runs : AreNoteRuns l.grouped;
  whole : cells_of_notes l.grouped ≡ cells_of_notes
      (map (moved (λ (k : ℕ). get_or l.fn.numbers k 0)) (take l.note-index l.fn.notes));
}
