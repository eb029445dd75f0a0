use Rattle.sv_gate.proofs.FindsSignals.{signals_find}
use Rattle.sv_gate.proofs.laws.ready_signals_find_room.Goals as goal

pub returns : goal.returns
returns c = signals_find
