use Rattle.sv_gate.proofs.Stays.{fences_stay}
use Rattle.sv_gate.proofs.laws.fences_stay.Goals as goal

pub returns : goal.returns
returns c = fences_stay
