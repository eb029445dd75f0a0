use Rattle.std.proofs.Common.{arith, refl}
use Rattle.sv_binding.proofs.Counting.{accesses_pushed}
use Rattle.sv_binding.proofs.numbering.number_accesses.Goals as goal

pub loop-access-preserved : goal.loop-access-preserved
loop-access-preserved c =
    let next = c.in_ok-pos.ensures in
    let before = c.loop-access.invariant.1 in (
      accesses_pushed c.args.step c.args.first c.args.accesses.now c.loop-access.access-index _
          c.loop-access.pos _ c.loop-access.numbered c.push_or_drop.new.self
          c.loop-access-test.true before refl c.loop-access.invariant.0 c.in_ok-push_or_drop.ensures.ok,
      omega (arith, next, before),
    )
