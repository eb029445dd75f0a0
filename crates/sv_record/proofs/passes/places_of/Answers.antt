use Rattle.std.proofs.Common.{◌∙◌, ap, sym}
use Rattle.std.specs.BTreeMap.{is_at}
use Rattle.std.specs.Map.{lookup}
use Rattle.std.specs.Ordering.{nat_cmp}
use Rattle.sv_record.proofs.FirstPlaces.{no_place, places_more, places_all}
use Rattle.sv_record.proofs.passes.places_of.Goals as goal

pub loop-i-init : goal.loop-i-init
loop-i-init c n = ap (lookup (is_at (nat_cmp n))) c.new-places.ensures.empty ∙ sym (no_place n)

pub loop-i-preserved : goal.loop-i-preserved
loop-i-preserved c n = places_more n c.loop-i.i c.args.lines.now c.index-lines-i.result _ _
    c.loop-i-test.true (c.loop-i.invariant n) c.index-lines-i.is (c.in_ok-take.ensures n)

pub returns : goal.returns
returns c = λ n. places_all n c.loop-i.i c.args.lines.now _ c.loop-i-test.false (c.loop-i.invariant n)
