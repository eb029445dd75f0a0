use Rattle.sv_report.proofs.lines.push_call_name.Goals as goal

pub returns-in-WaitFence : goal.returns-in-WaitFence
returns-in-WaitFence c = rw c.in-WaitFence.is c.write-in-WaitFence.ensures.bytes

pub returns-in-WaitQueue : goal.returns-in-WaitQueue
returns-in-WaitQueue c = rw c.in-WaitQueue.is c.write-in-WaitQueue.ensures.bytes
