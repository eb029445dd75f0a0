use Rattle.std.proofs.Common.{sym}
use Rattle.sv_mask.specs.Sets.{has}
use Rattle.sv_expand.proofs.BitLemmas.{has-or}
use Rattle.sv_expand.proofs.RowLemmas.{or-false}
use Rattle.sv_expand.proofs.union.with_flag.Goals as goal

pub returns-then-flag : goal.returns-then-flag
returns-then-flag c k = rw c.if-flag.true (has-or c.args.set c.args.more k)

pub returns-else-flag : goal.returns-else-flag
returns-else-flag c k = rw c.if-flag.false (sym (or-false (has c.args.set k)))
