use Rattle.sv_report.proofs.EventLines.{event_moves, events_end}
use Rattle.sv_report.proofs.events.push_events.Goals as goal

pub loop-i-preserved : goal.loop-i-preserved
loop-i-preserved c = event_moves _ c.loop-i.i _ _ c.args.marks.now c.args.replies.now _ _ _ _
    c.loop-i-test.true c.requires.one_each c.loop-i.invariant c.in_ok-push_event.ensures
    c.index-replies-i.is c.in_ok-push_reply.ensures

pub returns : goal.returns
returns c = events_end _ c.loop-i.i c.args.marks.now c.args.replies.now _ _ c.loop-i-test.false
    c.loop-i.invariant
