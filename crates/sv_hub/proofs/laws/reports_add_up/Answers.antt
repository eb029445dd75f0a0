use Rattle.sv_hub.proofs.Hearing.{reports_add_up}
use Rattle.sv_hub.proofs.laws.reports_add_up.Goals as goal

pub returns : goal.returns
returns c = reports_add_up
