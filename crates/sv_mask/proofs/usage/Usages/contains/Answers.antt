use Rattle.sv_mask.proofs.SetLemmas.{includes_test}
use Rattle.sv_mask.proofs.usage.Usages.contains.Goals as goal

pub returns : goal.returns
returns c = includes_test c.args.self.0 c.args.other.0
