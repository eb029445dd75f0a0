use Rattle.sv_history_laws.proofs.Onward.{ways_begin}
use Rattle.sv_history_laws.proofs.ways_begin.Goals as goal

pub returns : goal.returns
returns c = ways_begin
