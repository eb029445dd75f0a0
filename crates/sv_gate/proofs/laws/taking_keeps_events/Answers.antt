use Rattle.sv_gate.proofs.Later.{taking_keeps}
use Rattle.sv_gate.proofs.laws.taking_keeps_events.Goals as goal

pub returns : goal.returns
returns c = taking_keeps
