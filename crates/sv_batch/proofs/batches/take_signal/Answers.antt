use Rattle.std.proofs.Common.{◌∙◌, subst, sym}
use Rattle.std.specs.List.{All}
use Rattle.std.proofs.lemmas.List.Elements.{All-append}
use Rattle.sv_step_laws.specs.Steps.{IsGroupOf}
use Rattle.sv_batch.proofs.UsesTaken.{done_raises, left_done, left_not, not_raises, on_ok_given, signal_fits}
use Rattle.sv_batch.proofs.batches.take_signal.Goals as goal

pub returns-in_ok-work-in-Done-clause-left : goal.returns-in_ok-work-in-Done-clause-left
returns-in_ok-work-in-Done-clause-left c t m use_of room left =
    let signal = c.args.signal.now in
    let answer = c.in_ok-signal.ensures.answer t m left.semaphores use_of in
    left_done t m signal c.args.work.now c.signal.new.self c.in_ok-work-in-Done.field-0
    (done_raises t m signal (sym c.in-Done.is ∙ answer))
    (c.in_ok-signal.ensures.stands t m signal.stages left.semaphores use_of room (sym left.tokens))
    c.in_ok-work-in-Done.ensures left

pub returns-in_ok-work-in-Done-clause-fit : goal.returns-in_ok-work-in-Done-clause-fit
returns-in_ok-work-in-Done-clause-fit c t all = subst (All (IsGroupOf t))
    (sym c.in_ok-push_signal-in-Done.ensures) (All-append (IsGroupOf t) c.args.groups.now _ all
    (signal_fits t _ _ _ _ _))

pub returns-in-NotRaised-clause-left : goal.returns-in-NotRaised-clause-left
returns-in-NotRaised-clause-left c = on_ok_given c.push_or_drop.result (λ t m use_of room left.
    let signal = c.args.signal.now in
    let answer = c.in_ok-signal.ensures.answer t m left.semaphores use_of in
    left_not t m signal c.args.work.now c.signal.new.self
    (not_raises t m signal c.in-NotRaised.current (sym c.in-NotRaised.is ∙ answer)).0
    (c.in_ok-signal.ensures.stands t m signal.stages left.semaphores use_of room (sym left.tokens)) left)
