use Rattle.sv_gate.proofs.FindsSignals.{batches_taken}
use Rattle.sv_gate.proofs.laws.taken_batches_are_ready.Goals as goal

pub returns : goal.returns
returns c = batches_taken
