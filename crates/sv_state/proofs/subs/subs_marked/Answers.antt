use Rattle.std.proofs.Common.{refl}
use Rattle.sv_state.specs.declared.sub_runs.SubRuns.{SubRuns}
use Rattle.sv_state.specs.Masks.{ShownTo, mark_for}
use Rattle.sv_state.specs.Numbers.{sub_masks}
use Rattle.sv_state.proofs.Any.{any_end, any_step, item_in}
use Rattle.sv_state.proofs.Instances.{subs_shown_from, subs_shown_in}
use Rattle.sv_state.proofs.Parts.{never, unless}
use Rattle.sv_state.proofs.subs.subs_marked.Goals as goal

pub returns-then-marked_on : goal.returns-then-marked_on
returns-then-marked_on c =
    let subs = c.args.subs.now in
    let x = c.args.x.now in
    let k = mark_for c.args.write c.args.u.0 in
    let p = c.p-item.result in (
      λ t. subs_shown_from subs x k p (item_in (λ (q : SubRuns). ShownTo x k (sub_masks q)) subs
          c.loop-p.p-index p c.loop-p-test.true c.p-item.is) (c.if-marked_on.ensures.0 refl),
      λ l. refl,
    )

pub loop-p-preserved : goal.loop-p-preserved
loop-p-preserved c =
    let x = c.args.x.now in
    let k = mark_for c.args.write c.args.u.0 in
    any_step (λ (q : SubRuns). ShownTo x k (sub_masks q)) c.args.subs.now c.loop-p.p-index c.p-item.result
    c.loop-p-test.true c.p-item.is c.loop-p.invariant (unless c.if-marked_on.ensures)

pub returns : goal.returns
returns c =
    let x = c.args.x.now in
    let k = mark_for c.args.write c.args.u.0 in
    never (λ l. any_end (λ (q : SubRuns). ShownTo x k (sub_masks q)) c.args.subs.now c.loop-p.p-index
    c.loop-p-test.false c.loop-p.invariant (subs_shown_in c.args.subs.now x k l))
