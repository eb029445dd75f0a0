use Rattle.std.proofs.Common.{arith}
use Rattle.sv_json.proofs.Items.{fine_least, flaw_step, joined_step, all_joined}
use Rattle.sv_json.proofs.mask.join_items.Goals as goal

pub loop-item-init : goal.loop-item-init
loop-item-init g c = record { flaw = fine_least _; whole = cc c.none-whole.ensures }

pub loop-item-preserved : goal.loop-item-preserved
loop-item-preserved g c = record {
  flaw = flaw_step g.J.Joined.form c.args.items.now c.loop-item.item-index c.item-item.result
      c.read-part.result c.loop-item.flaw c.least-flaw.result _
      (omega arith) c.item-item.is c.read-part.ensures c.least-flaw.ensures c.loop-item.invariant.flaw;
  whole = joined_step g.J.Joined.join g.J.Joined.form c.args.items.now c.loop-item.item-index
      c.item-item.result c.read-part.result c.loop-item.whole c.join-whole.result _
      (omega arith) c.item-item.is c.read-part.ensures c.join-whole.ensures c.loop-item.invariant.whole;
}

pub returns : goal.returns
returns g c = all_joined g.J.Joined.join g.J.Joined.form c.args.items.now c.loop-item.item-index
    c.loop-item.flaw _ c.loop-item.whole _ c.loop-item-test.false c.loop-item.invariant.flaw
    c.loop-item.invariant.whole
