use Rattle.sv_gate.proofs.Later.{later_events_leave}
use Rattle.sv_gate.proofs.laws.later_events_leave.Goals as goal

pub returns : goal.returns
returns c = later_events_leave
