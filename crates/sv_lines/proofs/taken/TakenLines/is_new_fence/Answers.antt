use Rattle.std.proofs.Common.{◌≡◌, ◌∙◌, subst}
use Rattle.sv_rules.specs.Taken.{Taken}
use Rattle.sv_rules.specs.Named.{is_new_fence}
use Rattle.sv_lines.proofs.Found.{fence_new}
use Rattle.sv_lines.proofs.taken.TakenLines.is_new_fence.Goals as goal

pub returns : goal.returns
returns c = subst (λ (s : Taken). c.is_none.result ≡ is_new_fence s.trace c.args.fence) c.self.view_is
    (fence_new _ c.args.fence c.get.result c.is_none.result
    (c.get.ensures ∙ c.self.invariant.declared.fences c.args.fence) c.is_none.ensures)
