use Rattle.sv_history_laws.proofs.Onward.{ways_end}
use Rattle.sv_history_laws.proofs.ways_end.Goals as goal

pub returns : goal.returns
returns c = ways_end
