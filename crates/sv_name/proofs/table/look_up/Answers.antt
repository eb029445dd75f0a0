use Rattle.std.proofs.Common.{sym, refl, arith, ◌∙◌}
use Rattle.sv_name.proofs.TableLemmas.{passed-more, passed-at, passed-all}
use Rattle.sv_name.proofs.table.look_up.Goals as goal

pub loop-row-init : goal.loop-row-init
loop-row-init g c = refl

pub loop-row-preserved : goal.loop-row-preserved
loop-row-preserved g c =
    passed-more (λ row. (row.0.now, row.1)) c.args.rows.now c.args.text.now c.loop-row.row-index
    c.row-item.result
    c.loop-row-test.true c.row-item.is (sym c.eq.ensures ∙ c.if-eq.false) c.loop-row.invariant

pub returns-then-eq : goal.returns-then-eq
returns-then-eq g c =
    sym (passed-at (λ row. (row.0.now, row.1)) c.args.rows.now c.args.text.now c.loop-row.row-index
    c.row-item.result
    c.loop-row-test.true c.row-item.is (sym c.eq.ensures ∙ c.if-eq.true) c.loop-row.invariant)

pub returns : goal.returns
returns g c =
    sym (passed-all (λ row. (row.0.now, row.1)) c.args.rows.now c.args.text.now c.loop-row.row-index
    (omega arith) c.loop-row.invariant)
