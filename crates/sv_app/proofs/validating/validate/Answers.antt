use Rattle.std.proofs.Common.{sym, ◌∙◌}
use Rattle.sv_app.proofs.NextEvents.{next_event, one_more_event, went_well}
use Rattle.sv_app.proofs.validating.validate.Goals as goal

pub apply-requires-clause-next : goal.apply-requires-clause-next
apply-requires-clause-next c = next_event c.args.trace.now c.loop-mark.validator.trace
    c.loop-mark.mark-index c.as_slice-mark-items.result.now c.args.trace.now.text_order
    c.loop-mark.validator.history _ c.in_ok-event.event c.loop-mark.invariant.trace
    c.as_slice-mark-items.ensures c.requires.order c.loop-mark-test.true c.loop-mark.invariant.history
    c.in_ok-event.ensures.mark

pub loop-mark-preserved : goal.loop-mark-preserved
loop-mark-preserved c =
    let well = sym c.is_err.ensures.value ∙ c.if-is_err.false in
    record {
      trace = c.apply.ensures.trace ∙ c.loop-mark.invariant.trace;
      history = one_more_event c.loop-mark.mark-index c.as_slice-mark-items.result.now
          c.args.trace.now.text_order c.loop-mark.validator.history _ _ c.in_ok-event.event
          c.as_slice-mark-items.ensures c.loop-mark-test.true c.loop-mark.invariant.history
          c.in_ok-event.ensures.mark (went_well c.apply.result _ well c.apply.ensures.history);
      unspent = (went_well c.apply.result _ well c.apply.ensures.unspent).1;
    }
