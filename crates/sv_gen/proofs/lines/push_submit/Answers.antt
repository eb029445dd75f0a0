use Rattle.sv_gen.specs.Generated.{submit_line}
use Rattle.sv_gen.proofs.Joins.{join_six}
use Rattle.sv_gen.proofs.lines.push_submit.Goals as goal

pub returns : goal.returns
unfolding submit_line
returns c = join_six _ _ _ _ _ _ _ _ _ _ _ _ _ c.in_ok-push_op.ensures
    (rw c.from.ensures at c.in_ok-push_member.ensures)
    (rw c.from-2.ensures at c.in_ok-push_member-2.ensures) c.in_ok-push_str.ensures.bytes
    c.in_ok-push_batch.ensures c.in_ok-push_str-2.ensures.bytes
