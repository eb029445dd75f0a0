use Rattle.sv_hub.proofs.Hearing.{leaves_with_what_it_heard}
use Rattle.sv_hub.proofs.laws.leaves_with_what_it_heard.Goals as goal

pub returns : goal.returns
returns c = leaves_with_what_it_heard
