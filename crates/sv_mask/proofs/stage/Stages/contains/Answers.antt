use Rattle.sv_mask.proofs.SetLemmas.{includes_test}
use Rattle.sv_mask.proofs.stage.Stages.contains.Goals as goal

pub returns : goal.returns
returns c = rw c.contains.ensures (includes_test c.args.self.0 c.args.other.0)
