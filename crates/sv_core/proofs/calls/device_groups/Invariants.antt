use Rattle.std.proofs.Common.{◌≡◌, take}
use Rattle.std.specs.List.{flat_map}
use Rattle.sv_core.specs.Taking.{queue_groups_on}
use Rattle.sv_core.proofs.calls.device_groups.Given as goal

abbrev pub invariant-loop-queue : goal.invariant-loop-queue
invariant-loop-queue l = l.groups ≡ flat_map (queue_groups_on l.place l.queues) (take l.queue-index l.queues)
