use Rattle.std.proofs.Common.{◌∙◌, sym}
use Rattle.std.specs.BTreeSet.{contains}
use Rattle.std.specs.Ordering.{nat_cmp}
use Rattle.sv_gate.proofs.Asked.{all_more, one_fails}
use Rattle.sv_gate.proofs.gate.are_recs_published.Goals as goal

pub returns-then-not-contains : goal.returns-then-not-contains
returns-then-not-contains c = sym (one_fails (contains nat_cmp c.args.published.now) c.args.recs.now
    c.loop-rec.rec-index 0 c.loop-rec-test.true (sym c.contains.ensures ∙ c.if-not-contains.true))

pub loop-rec-preserved : goal.loop-rec-preserved
loop-rec-preserved c = all_more (contains nat_cmp c.args.published.now) c.args.recs.now c.loop-rec.rec-index
    0 c.loop-rec-test.true c.loop-rec.invariant (sym c.contains.ensures ∙ c.if-not-contains.false)
