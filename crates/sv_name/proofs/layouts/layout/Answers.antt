use Rattle.sv_mask.specs.Names.{layout_named}
use Rattle.sv_name.proofs.layouts.layout.Goals as goal

pub returns : goal.returns
unfolding layout_named
returns c = c.look_up.ensures
