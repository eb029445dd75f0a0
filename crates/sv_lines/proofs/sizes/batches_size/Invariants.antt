use Rattle.std.proofs.Common.{◌≡◌, take, sum_by}
use Rattle.sv_model.specs.Size.{batch_size, capped}
use Rattle.sv_lines.proofs.sizes.batches_size.Given as goal

abbrev pub invariant-loop-batch : goal.invariant-loop-batch
invariant-loop-batch l = l.size ≡ capped (sum_by (batch_size l.taken.trace) (take l.batch-index l.batches))
