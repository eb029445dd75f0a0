use Rattle.std.proofs.lemmas.Result.{on_ok_weaker}
use Rattle.sv_core.proofs.TakenItems.{fence_item}
use Rattle.sv_core.proofs.items.take_item.Goals as goal

pub returns-in-Fence-clause-at : goal.returns-in-Fence-clause-at
returns-in-Fence-clause-at c = on_ok_weaker c.take_fence.result (λ at.
    fence_item c.args.trace.now c.args.history.now c.args.recordings.now c.args.released c.args.item
    c.in-Fence.queue c.in-Fence.event c.in-Fence.fence c.run_of.result c.args.work.now
    c.take_fence.new.work
    c.in-Fence.is c.run_of.ensures (at c.args.trace.now c.args.released)) c.take_fence.ensures.at
