use Rattle.sv_hub.proofs.Hearing.{room_lasts}
use Rattle.sv_hub.proofs.laws.room_lasts.Goals as goal

pub returns : goal.returns
returns c = room_lasts
