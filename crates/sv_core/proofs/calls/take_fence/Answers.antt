use Rattle.std.proofs.lemmas.Result.{on_ok_weaker}
use Rattle.sv_core.proofs.HostWaits.{fence_done}
use Rattle.sv_core.proofs.calls.take_fence.Goals as goal

pub returns-clause-at : goal.returns-clause-at
returns-clause-at c = on_ok_weaker c.take_groups.result (λ at.
    fence_done c.args.run c.args.fence c.args.work.now c.take_groups.new.self c.signal-was.new.self
    c.in_ok-work.field-0 c.signal-was.result c.in_ok-groups.groups c.in_ok-notes.notes
    c.signal-was.ensures.stands c.signal-was.ensures.answer c.in_ok-work.ensures c.in_ok-groups.ensures
    c.in_ok-notes.ensures.notes at) c.take_groups.ensures.at
