use Rattle.sv_model.specs.declared.work.Dep.{Dep}
use Rattle.sv_state.specs.Outlines.{IsFull}
use Rattle.sv_state.proofs.Any.{each_copied, each_end}
use Rattle.sv_state.proofs.entry.is_full.Goals as goal

pub loop-d-preserved : goal.loop-d-preserved
loop-d-preserved c = each_copied (λ (d : Dep). IsFull c.args.e.now.reached d)
    c.args.outlines.now c.loop-d.d-index _ c.loop-d-test.true (c.is_full.ensures c.if-not-is_full.false)
    c.loop-d.invariant

pub returns : goal.returns
returns c = λ all. each_end (λ (d : Dep). IsFull c.args.e.now.reached d)
    c.args.outlines.now c.loop-d.d-index c.loop-d-test.false c.loop-d.invariant
