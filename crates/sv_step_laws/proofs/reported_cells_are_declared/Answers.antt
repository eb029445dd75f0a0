use Rattle.sv_step_laws.proofs.DeclaredCells.{reported_is_declared}
use Rattle.sv_step_laws.proofs.reported_cells_are_declared.Goals as goal

pub returns : goal.returns
returns c = reported_is_declared
