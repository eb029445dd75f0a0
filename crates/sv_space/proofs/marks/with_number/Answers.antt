use Rattle.std.proofs.Common.{arith, refl}
use Rattle.sv_space.proofs.Patterned.{all_with_pattern, all_with_place, told_pattern, told_place}
use Rattle.sv_space.proofs.marks.with_number.Goals as goal

pub returns-then-number-lt-MOST-clause-kept : goal.returns-then-number-lt-MOST-clause-kept
returns-then-number-lt-MOST-clause-kept c = all_with_pattern c.args.block _ c.args.number c.with.ensures refl

pub returns-then-number-lt-MOST-clause-told : goal.returns-then-number-lt-MOST-clause-told
returns-then-number-lt-MOST-clause-told c = told_pattern c.args.block _ c.args.spot c.args.number
    (omega arith) c.with.ensures

pub returns-else-number-lt-MOST-clause-kept : goal.returns-else-number-lt-MOST-clause-kept
returns-else-number-lt-MOST-clause-kept c = all_with_place c.args.block _ c.args.spot refl
    c.with-else-number-lt-MOST.ensures

pub returns-else-number-lt-MOST-clause-told : goal.returns-else-number-lt-MOST-clause-told
returns-else-number-lt-MOST-clause-told c = told_place c.args.block _ c.args.spot c.args.number
    (omega arith) c.with-else-number-lt-MOST.ensures
