use Rattle.sv_gate.proofs.Lawfulness.{agree}
use Rattle.sv_gate.proofs.laws.lawful_pasts_agree.Goals as goal

pub returns : goal.returns
returns c = agree
