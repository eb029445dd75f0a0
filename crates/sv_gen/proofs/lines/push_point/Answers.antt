use Rattle.sv_gen.specs.Generated.{point_text}
use Rattle.sv_gen.proofs.Joins.{join_three}
use Rattle.sv_gen.proofs.lines.push_point.Goals as goal

pub returns : goal.returns
unfolding point_text
returns c = join_three _ _ _ _ _ _ _ c.in_ok-write.ensures.bytes c.in_ok-push_member.ensures
    c.in_ok-push_str.ensures.bytes
