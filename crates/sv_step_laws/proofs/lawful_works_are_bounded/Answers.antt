use Rattle.sv_step_laws.proofs.BoundedWorks.{works_are_bounded}
use Rattle.sv_step_laws.proofs.lawful_works_are_bounded.Goals as goal

pub returns : goal.returns
returns c = works_are_bounded
