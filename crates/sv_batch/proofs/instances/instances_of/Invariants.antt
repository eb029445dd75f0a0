use Rattle.std.proofs.Common.{take}
use Rattle.sv_batch.specs.Begun.{HaveInstances}
use Rattle.sv_batch.proofs.instances.instances_of.Given as goal

abbrev pub invariant-loop-recording : goal.invariant-loop-recording
invariant-loop-recording l = HaveInstances (take l.recording-index l.fn.recordings) l.table
