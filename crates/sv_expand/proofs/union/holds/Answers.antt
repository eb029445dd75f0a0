use Rattle.sv_expand.proofs.RowLemmas.{all-holds}
use Rattle.sv_expand.proofs.union.holds.Goals as goal

pub returns : goal.returns
returns c n small = all-holds c.args.set c.args.other n small
