use Rattle.std.proofs.Common.{◌≡◌, drop}
use Rattle.serde_json.specs.View.{items_view}
use Rattle.sv_json.specs.Flaw.{least}
use Rattle.sv_json.specs.Form.{items_flaw, items_say, joined}
use Rattle.sv_json.proofs.mask.join_items.Given as goal

abbrev pub invariant-loop-item : goal.invariant-loop-item
invariant-loop-item g l = record {
  flaw : least l.flaw (items_flaw g.J.Joined.form (items_view (drop l.item-index l.items)))
      ≡ items_flaw g.J.Joined.form (items_view l.items);
  whole : joined g.J.Joined.join l.whole (items_say g.J.Joined.form
      (items_view (drop l.item-index l.items))) ≡ joined g.J.Joined.join g.J.Joined.none
      (items_say g.J.Joined.form (items_view l.items));
}
