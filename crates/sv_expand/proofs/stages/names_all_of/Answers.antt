use Rattle.std.proofs.Common.{ap, ◌∙◌, ◌&&◌, ◌||◌, not}
use Rattle.sv_expand.proofs.StageScopes.{plain-all, plain-lt}
use Rattle.sv_expand.proofs.stages.names_all_of.Goals as goal

pub returns : goal.returns
returns c =
    ap (λ b. b && (not c.args.other.top || c.args.word.top) &&
    (not c.args.other.bottom || c.args.word.bottom))
    (c.holds-stages.ensures 17 (plain-lt c.args.other.plain.0)
    ∙ plain-all c.args.word.plain.0 c.args.other.plain.0)
