use Rattle.std.proofs.Common.{ℕ, get_or}
use Rattle.sv_runs.proofs.GroupedReplies.{one_moved}
use Rattle.sv_runs.proofs.grouped_notes.group_notes.Goals as goal

pub loop-note-preserved : goal.loop-note-preserved
loop-note-preserved c = record {
  runs = c.in_ok-add_note.ensures.runs;
  whole = one_moved (λ (k : ℕ). get_or c.args.numbers.now k 0) c.args.notes.now c.loop-note.note-index _ _ _
      _ c.loop-note-test.true c.moved.ensures c.loop-note.invariant.whole c.in_ok-add_note.ensures.whole;
}
