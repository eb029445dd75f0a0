use Rattle.sv_gate.proofs.Stays.{semaphores_stay}
use Rattle.sv_gate.proofs.laws.semaphores_stay.Goals as goal

pub returns : goal.returns
returns c = semaphores_stay
