use Rattle.sv_hub.proofs.Hearing.{hears_while_it_stays}
use Rattle.sv_hub.proofs.laws.hears_while_it_stays.Goals as goal

pub returns : goal.returns
returns c = hears_while_it_stays
