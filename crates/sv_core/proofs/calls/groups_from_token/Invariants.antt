use Rattle.std.proofs.Common.{◌≡◌, take}
use Rattle.sv_core.specs.Taking.{token_groups}
use Rattle.sv_core.proofs.calls.groups_from_token.Given as goal

abbrev pub invariant-loop-queue : goal.invariant-loop-queue
invariant-loop-queue l = l.groups ≡ token_groups l.place l.token (take l.queue-index l.queues)
