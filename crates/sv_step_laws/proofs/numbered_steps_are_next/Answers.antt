use Rattle.sv_step_laws.proofs.Numbered.{is_next}
use Rattle.sv_step_laws.proofs.numbered_steps_are_next.Goals as goal

pub returns : goal.returns
returns c = is_next
