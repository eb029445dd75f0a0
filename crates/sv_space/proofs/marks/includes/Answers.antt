use Rattle.sv_mask.proofs.SetLemmas.{includes_test}
use Rattle.sv_space.proofs.marks.includes.Goals as goal

pub returns : goal.returns
returns c = includes_test c.args.set c.args.other
