use Rattle.std.proofs.Common.{sym, ◌∙◌}
use Rattle.std.proofs.lemmas.Result.{on_ok_weaker}
use Rattle.sv_model.specs.History.{batches_in, call_at}
use Rattle.sv_core.proofs.TakenItems.{batch_taken, sent_none, sent_some}
use Rattle.sv_core.proofs.items.take_batch_of.Goals as goal

pub returns-in-None-clause-at : goal.returns-in-None-clause-at
returns-in-None-clause-at c = on_ok_weaker c.take_batch.result (λ at t event b is.
    batch_taken t event c.args.recordings.now c.args.run c.args.work.now c.take_batch.new.work b
    c.empty_batch.result
    (is ∙ sent_none (batches_in (call_at c.args.trace.now c.args.history.now c.args.run.event))
    c.args.run.batch c.in-None.ensures ∙ sym c.empty_batch.ensures) (at t event)) c.take_batch.ensures.at

pub returns-in-Some-clause-at : goal.returns-in-Some-clause-at
returns-in-Some-clause-at c = on_ok_weaker c.take_batch-in-Some.result (λ at t event b is.
    batch_taken t event c.args.recordings.now c.args.run c.args.work.now c.take_batch-in-Some.new.work b
    c.in-Some.batch.now
    (is ∙ sent_some (batches_in (call_at c.args.trace.now c.args.history.now c.args.run.event))
    c.args.run.batch c.in-Some.batch.now c.in-Some.ensures) (at t event)) c.take_batch-in-Some.ensures.at
