use Rattle.std.proofs.lemmas.Result.{on_ok_weaker}
use Rattle.sv_model.specs.declared.line.Line.TheVariants.{ResetFence, WaitDevice, WaitFence, WaitQueue}
use Rattle.sv_core.proofs.HostWaits.{in_call}
use Rattle.sv_core.proofs.calls.take_call.Goals as goal

pub returns-in-WaitFence-clause-at : goal.returns-in-WaitFence-clause-at
returns-in-WaitFence-clause-at c = on_ok_weaker c.take_fence_wait.result (λ at event.
    in_call c.args.trace.now event c.args.run c.args.work.now c.take_fence_wait.new.work c.args.call.now
    (WaitFence c.in-WaitFence.lane c.in-WaitFence.fence) c.in-WaitFence.is (at event))
    c.take_fence_wait.ensures.at

pub returns-in-WaitQueue-clause-at : goal.returns-in-WaitQueue-clause-at
returns-in-WaitQueue-clause-at c = on_ok_weaker c.take_queue_wait.result (λ at event.
    in_call c.args.trace.now event c.args.run c.args.work.now c.take_queue_wait.new.work c.args.call.now
    (WaitQueue c.in-WaitQueue.lane c.in-WaitQueue.queue) c.in-WaitQueue.is (λ names. at event))
    c.take_queue_wait.ensures.at

pub returns-in-WaitDevice-clause-at : goal.returns-in-WaitDevice-clause-at
returns-in-WaitDevice-clause-at c = on_ok_weaker c.take_device_wait.result (λ at event.
    in_call c.args.trace.now event c.args.run c.args.work.now c.take_device_wait.new.work c.args.call.now
    (WaitDevice c.in-WaitDevice.lane) c.in-WaitDevice.is (λ names. at event))
    c.take_device_wait.ensures.at

pub returns-in-ResetFence-clause-at : goal.returns-in-ResetFence-clause-at
returns-in-ResetFence-clause-at c = λ event.
    in_call c.args.trace.now event c.args.run c.args.work.now c.take_fence_reset.new.work c.args.call.now
    (ResetFence c.in-ResetFence.lane c.in-ResetFence.fence) c.in-ResetFence.is
    (λ names. c.take_fence_reset.ensures.at c.args.trace.now event)
