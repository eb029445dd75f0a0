use Rattle.std.proofs.Common.{◌≡◌, ◌∙◌, ap, subst}
use Rattle.sv_rules.specs.Taken.{Taken}
use Rattle.std.specs.Prelude.{is_some}
use Rattle.sv_rules.specs.Named.{is_new_pass}
use Rattle.sv_lines.proofs.Found.{pass_new}
use Rattle.sv_lines.proofs.taken.TakenLines.is_new_pass.Goals as goal

pub returns : goal.returns
returns c = subst (λ (s : Taken). c.is_none.result ≡ is_new_pass s.trace c.args.pass) c.self.view_is
    (pass_new _ c.args.pass c.get.result c.is_none.result
    (ap is_some c.get.ensures ∙ c.self.invariant.declared.passes_known c.args.pass) c.is_none.ensures)
