use Rattle.std.proofs.Common.{◌≡◌, ◌∙◌, ap, subst}
use Rattle.sv_model.specs.Size.{capped}
use Rattle.sv_rules.specs.Limits.{size_so_far}
use Rattle.sv_rules.specs.Taken.{Taken}
use Rattle.sv_lines.proofs.Kept.{trace_in}
use Rattle.sv_lines.proofs.Sized.{size_of_part}
use Rattle.sv_lines.proofs.taken.TakenLines.size.Goals as goal

pub returns : goal.returns
unfolding size_so_far
returns c = subst (λ (s : Taken). c.self.inside.size ≡ capped (size_so_far s)) c.self.view_is
    (c.self.invariant.size ∙ ap capped (size_of_part (trace_in c.self.inside)))
