use Rattle.sv_mask.specs.Names.{plain_stage_named}
use Rattle.sv_name.proofs.stages.plain_stage.Goals as goal

pub returns : goal.returns
unfolding plain_stage_named
returns c = c.look_up.ensures
