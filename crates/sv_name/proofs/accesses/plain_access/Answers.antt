use Rattle.sv_mask.specs.Names.{plain_access_named}
use Rattle.sv_name.proofs.accesses.plain_access.Goals as goal

pub returns : goal.returns
unfolding plain_access_named
returns c = c.look_up.ensures
