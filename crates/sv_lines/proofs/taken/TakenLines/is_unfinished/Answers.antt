use Rattle.std.proofs.Common.{◌≡◌, ◌∙◌, subst}
use Rattle.sv_rules.specs.Ends.{is_unfinished}
use Rattle.sv_rules.specs.Taken.{Taken}
use Rattle.sv_lines.proofs.Unfinished.{unfinished_is}
use Rattle.sv_lines.proofs.taken.TakenLines.is_unfinished.Goals as goal

pub returns : goal.returns
returns c = subst (λ (s : Taken). c.is_unfinished.result ≡ is_unfinished s.trace) c.self.view_is
    (c.is_unfinished.ensures ∙ unfinished_is c.self.inside c.self.invariant)
