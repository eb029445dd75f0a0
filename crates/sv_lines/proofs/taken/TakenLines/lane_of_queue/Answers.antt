use Rattle.std.proofs.Common.{◌≡◌, ◌∙◌, ap, subst, option_map}
use Rattle.sv_rules.specs.Taken.{Taken}
use Rattle.std.specs.Prelude.{ℕ}
use Rattle.sv_rules.specs.Taken.{lane_of_queue}
use Rattle.sv_lines.proofs.taken.TakenLines.lane_of_queue.Goals as goal

pub returns : goal.returns
unfolding lane_of_queue
returns c = subst (λ (s : Taken). c.second_of.result ≡ lane_of_queue s.trace c.args.queue) c.self.view_is
    (c.second_of.ensures ∙ ap (option_map (λ (q : ℕ × ℕ). q.1))
    (c.get.ensures ∙ c.self.invariant.declared.queues c.args.queue))
