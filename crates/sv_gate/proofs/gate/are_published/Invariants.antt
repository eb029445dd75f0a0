use Rattle.std.proofs.Common.{◌≡◌, take, true}
use Rattle.std.specs.BTreeSet.{contains}
use Rattle.std.specs.List.{list_all}
use Rattle.std.specs.Ordering.{nat_cmp}
use Rattle.sv_model.specs.declared.line.Batch.{Batch}
use Rattle.sv_gate.proofs.gate.are_published.Given as goal

abbrev pub invariant-loop-batch : goal.invariant-loop-batch
invariant-loop-batch l = list_all (λ (b : Batch). list_all (contains nat_cmp l.published) b.recs)
    (take l.batch-index l.batches) ≡ true
