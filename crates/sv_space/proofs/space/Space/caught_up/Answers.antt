use Rattle.std.proofs.Common.{refl}
use Rattle.sv_space.specs.Space.{given_in}
use Rattle.sv_space.proofs.space.Space.caught_up.Goals as goal

pub returns : goal.returns
unfolding given_in
returns c = refl
