use Rattle.std.proofs.Common.{refl}
use Rattle.sv_state.proofs.entry.extend.Goals as goal

pub returns : goal.returns
returns c = record {
  access = refl;
  stands = λ cell alike deps. c.in_ok-extend.ensures.stands cell alike deps;
  keeps = c.in_ok-extend.ensures.keeps;
}
