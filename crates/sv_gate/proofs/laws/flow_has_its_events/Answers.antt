use Rattle.sv_gate.proofs.Later.{flow_has_its_events}
use Rattle.sv_gate.proofs.laws.flow_has_its_events.Goals as goal

pub returns : goal.returns
returns c = flow_has_its_events
