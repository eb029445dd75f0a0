use Rattle.std.proofs.Common.{Some, ap, sym, ◌∙◌}
use Rattle.sv_name.proofs.MaskNames.{stage_named-plain, stage_named-further}
use Rattle.sv_name.proofs.stages.stage_bits.Goals as goal

pub returns-in-Some : goal.returns-in-Some
returns-in-Some c = ap Some c.of.ensures ∙ sym (stage_named-plain c.args.text.now c.in-Some.stage
    (sym c.in-Some.ensures))

pub returns-in-None : goal.returns-in-None
returns-in-None c = c.look_up.ensures ∙ sym (stage_named-further c.args.text.now (sym c.in-None.ensures))
