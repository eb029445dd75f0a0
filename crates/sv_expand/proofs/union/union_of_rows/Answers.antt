use Rattle.std.proofs.Common.{◌∙◌}
use Rattle.sv_expand.proofs.BitLemmas.{has-zero}
use Rattle.sv_expand.proofs.RowLemmas.{union-more}
use Rattle.sv_expand.proofs.union.union_of_rows.Goals as goal

pub loop-member-init : goal.loop-member-init
loop-member-init c k = has-zero k

pub loop-member-preserved : goal.loop-member-preserved
loop-member-preserved c k =
    c.with_flag-all.ensures k ∙ union-more c.args.set c.args.rows.now c.loop-member.member k _
    (c.loop-member.invariant k)
