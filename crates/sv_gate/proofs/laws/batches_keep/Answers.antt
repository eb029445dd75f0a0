use Rattle.sv_gate.proofs.Stays.{keeps}
use Rattle.sv_gate.proofs.laws.batches_keep.Goals as goal

pub returns : goal.returns
returns c = keeps
