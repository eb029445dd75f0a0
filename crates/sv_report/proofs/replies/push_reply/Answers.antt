use Rattle.sv_report.proofs.Due.{due_inside, entry_moves, entries_end}
use Rattle.sv_report.proofs.replies.push_reply.Goals as goal

pub loop-i-preserved : goal.loop-i-preserved
loop-i-preserved c = record {
  inside = due_inside c.loop-i.i c.loop-i.done _ c.as_slice-notes.result.now c.loop-i.invariant.inside
      c.in_ok-done.ensures.count;
  lines = entry_moves c.loop-i.i c.loop-i.done _ _ c.as_slice-reports.result.now c.as_slice-notes.result.now
      _ _ _ _ c.loop-i-test.true c.in_ok-done.ensures.count c.loop-i.invariant.lines
      c.in_ok-done.ensures.lines c.in_ok-push_report.ensures;
}

pub returns : goal.returns
returns c = rw (← c.as_slice-reports.ensures, ← c.as_slice-notes.ensures)
    (entries_end c.push_notes.result c.loop-i.i c.loop-i.done c.as_slice-reports.result.now
    c.as_slice-notes.result.now _ _ _ c.loop-i-test.false c.loop-i.invariant.lines c.push_notes.ensures)
