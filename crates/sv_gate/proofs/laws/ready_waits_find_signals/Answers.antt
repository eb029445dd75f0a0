use Rattle.sv_gate.proofs.FindsSignals.{waits_find}
use Rattle.sv_gate.proofs.laws.ready_waits_find_signals.Goals as goal

pub returns : goal.returns
returns c = waits_find
