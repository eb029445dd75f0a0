use Rattle.sv_gen.specs.Generated.{begin_line}
use Rattle.sv_gen.proofs.Joins.{join_four}
use Rattle.sv_gen.proofs.lines.push_begin.Goals as goal

pub returns : goal.returns
unfolding begin_line
returns c = join_four _ _ _ _ _ _ _ _ _ c.in_ok-push_op.ensures
    (rw c.from.ensures at c.in_ok-push_member.ensures)
    (rw c.from-2.ensures at c.in_ok-push_member-2.ensures) c.in_ok-push_str.ensures.bytes
