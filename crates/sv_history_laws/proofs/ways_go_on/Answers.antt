use Rattle.sv_history_laws.proofs.Onward.{ways_go_on}
use Rattle.sv_history_laws.proofs.ways_go_on.Goals as goal

pub returns : goal.returns
returns c = ways_go_on
