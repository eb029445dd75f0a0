use Rattle.std.proofs.Common.{◌≡◌, ◌∙◌, subst}
use Rattle.sv_rules.specs.Taken.{Taken}
use Rattle.sv_rules.specs.Named.{is_new_semaphore}
use Rattle.sv_lines.proofs.Found.{semaphore_new}
use Rattle.sv_lines.proofs.taken.TakenLines.is_new_semaphore.Goals as goal

pub returns : goal.returns
returns c = subst (λ (s : Taken). c.is_none.result ≡ is_new_semaphore s.trace c.args.sem) c.self.view_is
    (semaphore_new _ c.args.sem c.get.result c.is_none.result
    (c.get.ensures ∙ c.self.invariant.declared.semaphores c.args.sem) c.is_none.ensures)
