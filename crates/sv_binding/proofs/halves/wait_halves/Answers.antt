use Rattle.std.proofs.Common.{arith}
use Rattle.sv_model.specs.Events as spec
use Rattle.sv_binding.proofs.Counting.{tokens_pushed}
use Rattle.sv_binding.proofs.halves.wait_halves.Goals as goal

pub loop-group-preserved : goal.loop-group-preserved
loop-group-preserved c =
    let next = c.in_ok-next.ensures in
    let before = c.loop-group.invariant.1 in (
      tokens_pushed (spec.wait_half c.args.place) c.args.token c.args.groups.now c.loop-group.group-index
          c.group-item.result c.loop-group.next c.loop-group.halves c.push_or_drop.new.self
          c.in_ok-wait_half.field-0
          c.loop-group-test.true c.group-item.is before c.in_ok-wait_half.ensures c.loop-group.invariant.0
          c.in_ok-push_or_drop.ensures.ok,
      omega (arith, next, before),
    )
