use Rattle.std.proofs.Common.{arith}
use Rattle.sv_report.proofs.Due.{due_moves}
use Rattle.sv_report.proofs.replies.push_due.Goals as goal

pub loop-count-preserved : goal.loop-count-preserved
loop-count-preserved c =
    let moved = due_moves c.args.number c.loop-count.count _ c.args.notes.now _ _ _ _ _
    c.loop-count-test.true c.number_before.ensures c.if-number_before-number.false
    c.loop-count.invariant.counted c.loop-count.invariant.lines c.in_ok-push_note.ensures in
    record { inside = omega arith; counted = moved.0; lines = moved.1 }
