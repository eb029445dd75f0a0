use Rattle.sv_gen.specs.Generated.{access_text}
use Rattle.sv_gen.proofs.Joins.{join_three}
use Rattle.sv_gen.proofs.lines.push_access.Goals as goal

pub returns : goal.returns
unfolding access_text
returns c = join_three _ _ _ _ _ _ _ c.in_ok-push_str.ensures.bytes
    (rw c.access_word.ensures at c.in_ok-push_str-2.ensures.bytes) c.in_ok-push_str-3.ensures.bytes
