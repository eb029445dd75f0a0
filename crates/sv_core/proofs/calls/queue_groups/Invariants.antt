use Rattle.std.proofs.Common.{◌≡◌, take}
use Rattle.sv_core.specs.Taking.{queue_groups_on}
use Rattle.sv_core.proofs.calls.queue_groups.Given as goal

abbrev pub invariant-loop-queue : goal.invariant-loop-queue
invariant-loop-queue l = l.groups ≡ queue_groups_on l.place (take l.queue-index l.queues) l.from
