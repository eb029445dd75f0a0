use Rattle.std.proofs.Common.{append_assoc}
use Rattle.sv_report.specs.Notes.{fence_note_line}
use Rattle.sv_report.proofs.notes.push_fence_note.Goals as goal

pub returns : goal.returns
unfolding fence_note_line
returns c = simp append_assoc c.writeln.ensures.bytes
