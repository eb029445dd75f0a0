use Rattle.std.proofs.Common.{◌≡◌, ◌∙◌, subst}
use Rattle.sv_rules.specs.Taken.{Taken}
use Rattle.sv_rules.specs.Taken.{kind_in}
use Rattle.sv_lines.proofs.taken.TakenLines.kind.Goals as goal

pub returns : goal.returns
unfolding kind_in
returns c = subst (λ (s : Taken). c.get.result ≡ kind_in s.trace c.args.sem) c.self.view_is
    (c.get.ensures ∙ c.self.invariant.declared.semaphores c.args.sem)
