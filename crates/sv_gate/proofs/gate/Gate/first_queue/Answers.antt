use Rattle.std.proofs.Common.{◌<◌, ◌≡◌, ◌∙◌, [], length, sym, ap, arith}
use Rattle.sv_model.specs.Holding.{item_ready, starts}
use Rattle.sv_gate.proofs.Places.{first_is, none_is}
use Rattle.sv_gate.proofs.gate.Gate.first_queue.Goals as goal

pub returns-then-queue_starts : goal.returns-then-queue_starts
returns-then-queue_starts c t h m p lawful is stands agrees =
    let long : length c.args.self.now.queues.items ≡ length h.queues = ap length is.queues in
    let within : c.loop-queue.queue < length h.queues = omega arith in
    sym (first_is (starts (item_ready t p h.events)) h.queues c.loop-queue.queue [] within
    (c.loop-queue.invariant t h m p lawful is stands agrees)
    (sym (c.queue_starts.ensures t h m p lawful is stands agrees) ∙ c.if-queue_starts.true))

pub returns : goal.returns
returns c t h m p lawful is stands agrees =
    let long : length c.args.self.now.queues.items ≡ length h.queues = ap length is.queues in
    sym (none_is (starts (item_ready t p h.events)) h.queues []
    (λ k l. c.loop-queue.invariant t h m p lawful is stands agrees k (omega arith)))
