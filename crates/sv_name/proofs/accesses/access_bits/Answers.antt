use Rattle.std.proofs.Common.{Some, ap, sym, ◌∙◌}
use Rattle.sv_name.proofs.MaskNames.{access_named-plain, access_named-further}
use Rattle.sv_name.proofs.accesses.access_bits.Goals as goal

pub returns-in-Some : goal.returns-in-Some
returns-in-Some c = ap Some c.of.ensures ∙ sym (access_named-plain c.args.text.now c.in-Some.access
    (sym c.in-Some.ensures))

pub returns-in-None : goal.returns-in-None
returns-in-None c = c.look_up.ensures ∙ sym (access_named-further c.args.text.now (sym c.in-None.ensures))
