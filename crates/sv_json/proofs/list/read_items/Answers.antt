use Rattle.std.proofs.Common.{◌≡◌, [], ◌∷◌, ◌++◌, arith, rules}
use Rattle.sv_json.proofs.Items.{fine_least, flaw_step, parts_step, all_read}
use Rattle.sv_json.proofs.list.read_items.Goals as goal

pub loop-item-init : goal.loop-item-init
loop-item-init g c = record { flaw = fine_least _; parts = search rules }

pub loop-item-preserved : goal.loop-item-preserved
loop-item-preserved g c =
    let pushed : c.push_or_drop.new.self ≡ c.loop-item.parts ++ c.in_ok-part.part.value ∷ [] =
    c.in_ok-push_or_drop.ensures.ok in
    record {
      flaw = flaw_step g.W.Whole.form c.args.items.now c.loop-item.item-index c.item-item.result
          c.in_ok-part.part c.loop-item.flaw c.least-flaw.result _
          (omega arith) c.item-item.is c.in_ok-part.ensures c.least-flaw.ensures c.loop-item.invariant.flaw;
      parts = parts_step g.W.Whole.form c.args.items.now c.loop-item.item-index c.item-item.result
          c.in_ok-part.part c.loop-item.parts c.push_or_drop.new.self _
          (omega arith) c.item-item.is c.in_ok-part.ensures pushed c.loop-item.invariant.parts;
    }

pub returns : goal.returns
returns g c = all_read g.W.Whole.form c.args.items.now c.loop-item.item-index c.loop-item.flaw _
    c.loop-item.parts _ c.loop-item-test.false c.loop-item.invariant.flaw c.loop-item.invariant.parts
