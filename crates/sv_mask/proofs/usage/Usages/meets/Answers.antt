use Rattle.std.proofs.Common.{arith}
use Rattle.std.proofs.lemmas.Nat.{and_le_l}
use Rattle.sv_mask.proofs.SetLemmas.{meets_test}
use Rattle.sv_mask.proofs.usage.Usages.meets.Goals as goal

pub returns : goal.returns
returns c = meets_test c.args.self.0 c.args.other.0
    (let le = and_le_l c.args.self.0 c.args.other.0 in omega arith)
