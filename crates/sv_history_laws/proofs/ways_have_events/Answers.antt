use Rattle.sv_history_laws.proofs.Onward.{ways_have_events}
use Rattle.sv_history_laws.proofs.ways_have_events.Goals as goal

pub returns : goal.returns
returns c = ways_have_events
