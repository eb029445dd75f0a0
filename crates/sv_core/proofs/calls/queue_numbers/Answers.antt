use Rattle.std.proofs.Common.{ap, ◌∙◌}
use Rattle.sv_model.specs.Declarations.{queue_number}
use Rattle.sv_model.proofs.Positions.{some_pushed}
use Rattle.sv_core.proofs.calls.queue_numbers.Goals as goal

pub loop-line-preserved : goal.loop-line-preserved
loop-line-preserved c = some_pushed queue_number c.args.lines.now c.loop-line.line-index c.line-item.result
    c.queue_number.result c.loop-line.queues c.push_some.new.queues c.loop-line-test.true
    (c.queue_number.ensures ∙ ap queue_number c.line-item.is) c.loop-line.invariant
    c.in_ok-push_some.ensures
