use Rattle.std.proofs.Common.{arith}
use Rattle.sv_space.proofs.Patterned.{of_found, of_new}
use Rattle.sv_space.proofs.pattern.number_of.Goals as goal

pub returns-then-number-count-clause-number : goal.returns-then-number-count-clause-number
returns-then-number-count-clause-number c = of_found c.deref.result.now c.args.patterns.now.items
    c.find-number.result c.args.group.now.deps c.deref.ensures.value (omega arith) c.find-number.ensures.found

pub returns-clause-number : goal.returns-clause-number
returns-clause-number c = of_new c.args.patterns.now.items c.add.new.patterns.items c.find-number.result
    c.args.group.now.deps
    (let l = c.find-number.ensures.listed in let m = c.deref.ensures.len in omega (arith, l, m))
    c.in_ok-add.ensures.longer c.in_ok-add.ensures.has
