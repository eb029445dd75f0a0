use Rattle.sv_step_laws.proofs.Lowered.{inside}
use Rattle.sv_step_laws.proofs.lawful_steps_are_inside.Goals as goal

pub returns : goal.returns
returns c = inside
