use Rattle.std.proofs.Common.{◌+◌, ℕ, ap, ◌∙◌, arith}
use Rattle.sv_model.specs.Barriers as spec
use Rattle.sv_model.proofs.Positions.{groups_pushed, position_after}
use Rattle.sv_model.proofs.ElementTransitions.{few_numbered}
use Rattle.sv_command.proofs.groups.groups.Goals as goal

pub loop-element-preserved : goal.loop-element-preserved
loop-element-preserved c =
    let few = few_numbered c.args.here _ c.args.here.step c.loop-element.pos c.in_ok-group.group
    c.in_ok-group.ensures in
    record {
      count = ap (λ (n : ℕ). c.loop-element.pos + n) c.len.ensures
          ∙ position_after (spec.element_group c.args.here) c.args.here.step c.args.elements.now
          c.loop-element.element-index _ c.loop-element.pos c.in_ok-group.group c.loop-element-test.true
          c.loop-element.invariant.count c.in_ok-group.ensures;
      few = omega arith;
      made = groups_pushed (spec.element_group c.args.here) c.args.here.step c.args.elements.now
          c.loop-element.element-index _ c.loop-element.pos c.in_ok-group.group c.loop-element.groups _
          c.loop-element-test.true c.loop-element.invariant.count c.in_ok-group.ensures
          c.loop-element.invariant.made c.in_ok-push_or_drop.ensures.ok;
    }
