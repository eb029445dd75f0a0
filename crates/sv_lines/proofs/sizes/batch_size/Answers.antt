use Rattle.std.proofs.Common.{◌+◌, length, sum_by, refl}
use Rattle.sv_rules.specs.Taken.{size_in}
use Rattle.sv_lines.proofs.sizes.batch_size.Goals as goal

pub returns : goal.returns
unfolding size_in
returns c =
    let w = length c.args.batch.now.waits in
    let r = sum_by (size_in c.args.taken.now.trace) c.args.batch.now.recs in
    c.both.ensures (1 + w + r) (length c.args.batch.now.signals)
    (c.both-with_recs.ensures (1 + w) r (c.both-own.ensures 1 w refl c.count.ensures)
    (rw c.as_slice.ensures at c.recs_size-recs.ensures))
    c.count-2.ensures
