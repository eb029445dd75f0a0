use Rattle.std.proofs.Common.{◌≡◌, ◌∙◌, subst}
use Rattle.sv_rules.specs.Taken.{Taken}
use Rattle.sv_rules.specs.Named.{is_new_queue}
use Rattle.sv_lines.proofs.Found.{queue_new}
use Rattle.sv_lines.proofs.taken.TakenLines.is_new_queue.Goals as goal

pub returns : goal.returns
returns c = subst (λ (s : Taken). c.is_none.result ≡ is_new_queue s.trace c.args.queue) c.self.view_is
    (queue_new _ c.args.queue c.get.result c.is_none.result
    (c.get.ensures ∙ c.self.invariant.declared.queues c.args.queue) c.is_none.ensures)
