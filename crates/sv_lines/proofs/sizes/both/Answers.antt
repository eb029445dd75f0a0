use Rattle.std.proofs.Common.{◌∙◌}
use Rattle.sv_lines.proofs.Sums.{both_capped}
use Rattle.sv_lines.proofs.sizes.both.Goals as goal

pub returns : goal.returns
returns c x y e h = c.saturating_add.ensures ∙ both_capped c.args.a c.args.b x y e h
