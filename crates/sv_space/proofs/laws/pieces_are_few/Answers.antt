use Rattle.sv_space.proofs.Fewer.{pieces_are_few}
use Rattle.sv_space.proofs.laws.pieces_are_few.Goals as goal

pub returns : goal.returns
returns c = pieces_are_few
