use Rattle.std.proofs.Common.{◌≡◌, ◌∙◌, ap, subst, option_map}
use Rattle.sv_rules.specs.Taken.{Taken}
use Rattle.sv_lines.specs.Extents.{as_resource}
use Rattle.sv_rules.specs.Taken.{resource_in}
use Rattle.sv_lines.proofs.taken.TakenLines.extent.Goals as goal

pub returns : goal.returns
unfolding resource_in
returns c = subst (λ (s : Taken). option_map as_resource c.get.result ≡ resource_in s.trace c.args.res)
    c.self.view_is
    (ap (option_map as_resource) c.get.ensures ∙ c.self.invariant.declared.resources c.args.res)
