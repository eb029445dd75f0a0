use Rattle.std.proofs.Common.{◌≡◌, ◌++◌, drop}
use Rattle.serde_json.specs.View.{items_view}
use Rattle.sv_json.specs.Flaw.{least}
use Rattle.sv_json.specs.Form.{items_flaw, items_say}
use Rattle.sv_json.proofs.list.read_items.Given as goal

abbrev pub invariant-loop-item : goal.invariant-loop-item
invariant-loop-item g l = record {
  flaw : least l.flaw (items_flaw g.W.Whole.form (items_view (drop l.item-index l.items)))
      ≡ items_flaw g.W.Whole.form (items_view l.items);
  parts : l.parts ++ items_say g.W.Whole.form (items_view (drop l.item-index l.items))
      ≡ items_say g.W.Whole.form (items_view l.items);
}
