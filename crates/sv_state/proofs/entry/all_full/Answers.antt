use Rattle.sv_state.specs.Outlines.{IsFull}
use Rattle.sv_state.specs.declared.entry.Entry.{Entry}
use Rattle.sv_state.proofs.Any.{each_end, each_next}
use Rattle.sv_state.proofs.entry.all_full.Goals as goal

pub loop-e-preserved : goal.loop-e-preserved
loop-e-preserved c = λ e d on on_d. each_next (λ (f : Entry). IsFull f.reached d) c.args.entries.now
    c.loop-e.e-index c.e-item.result c.loop-e-test.true c.e-item.is
    (c.is_full.ensures c.if-not-is_full.false d on_d) (λ f on_f. c.loop-e.invariant f d on_f on_d) e on

pub returns : goal.returns
returns c = λ all e d on on_d. each_end (λ (f : Entry). IsFull f.reached d) c.args.entries.now
    c.loop-e.e-index c.loop-e-test.false (λ f on_f. c.loop-e.invariant f d on_f on_d) e on
