use Rattle.std.proofs.Common.{refl}
use Rattle.sv_state.proofs.entry.advance.Goals as goal

pub returns : goal.returns
returns c = record {
  access = refl;
  stands = λ cell deps step next. c.in_ok-advance.ensures.stands cell c.args.e.now.access deps step next;
  keeps = c.in_ok-advance.ensures.keeps;
}
