use Rattle.sv_history_laws.proofs.Held.{taken_are_queued}
use Rattle.sv_history_laws.proofs.taken_are_queued.Goals as goal

pub returns : goal.returns
returns c = taken_are_queued
