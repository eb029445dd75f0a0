use Rattle.std.proofs.Common.{◌≡◌, take, true}
use Rattle.std.specs.List.{list_all}
use Rattle.sv_model.specs.Holding.{is_empty}
use Rattle.sv_gate.proofs.queues.are_idle.Given as goal

abbrev pub invariant-loop-queue : goal.invariant-loop-queue
invariant-loop-queue l = list_all is_empty (take l.queue-index l.queues) ≡ true
