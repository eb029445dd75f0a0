use Rattle.std.proofs.Common.{◌≡◌, ◌∙◌, ap, subst, option_map}
use Rattle.sv_rules.specs.Taken.{Taken}
use Rattle.std.specs.Prelude.{ℕ}
use Rattle.sv_rules.specs.Taken.{family_of_queue}
use Rattle.sv_lines.proofs.taken.TakenLines.family_of_queue.Goals as goal

pub returns : goal.returns
unfolding family_of_queue
returns c = subst (λ (s : Taken). c.first_of.result ≡ family_of_queue s.trace c.args.queue) c.self.view_is
    (c.first_of.ensures ∙ ap (option_map (λ (q : ℕ × ℕ). q.0))
    (c.get.ensures ∙ c.self.invariant.declared.queues c.args.queue))
