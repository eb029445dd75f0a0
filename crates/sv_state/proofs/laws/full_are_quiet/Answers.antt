use Rattle.sv_state.proofs.Fullness.{full_are_quiet}
use Rattle.sv_state.proofs.laws.full_are_quiet.Goals as goal

pub returns : goal.returns
returns c = full_are_quiet
