use Rattle.std.proofs.Common.{arith, refl}
use Rattle.std.proofs.lemmas.Nat.{shr_le}
use Rattle.sv_space.proofs.Patterned.{clear_below}
use Rattle.sv_space.proofs.marks.clear_from.Goals as goal

pub returns-clause-clear : goal.returns-clause-clear
returns-clause-clear c = λ k le lt.
    let few = c.min.ensures in
    let low = shr_le c.args.set c.args.from in
    clear_below c.args.set c.args.from _ c.min.result k c.requires refl (omega (arith, low))
    (omega (arith, few)) le lt
