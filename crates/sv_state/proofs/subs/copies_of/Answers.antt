use Rattle.std.proofs.Common.{◌∙◌, List, ap}
use Rattle.sv_state.specs.declared.sub_runs.SubRuns.{SubRuns}
use Rattle.sv_state.specs.Numbers.{sub_masks, subs_masks}
use Rattle.sv_state.proofs.Instances.{subs_copied}
use Rattle.sv_state.proofs.subs.copies_of.Goals as goal

pub loop-p-preserved : goal.loop-p-preserved
loop-p-preserved c =
    ap (λ (xs : List SubRuns). subs_masks xs) c.in_ok-push.ensures.items
    ∙ subs_copied c.loop-p.copies.items c.args.subs.now c.loop-p.p-index c.p-item.result c.in_ok-copied.copied
    c.loop-p-test.true c.loop-p.invariant
    (c.in_ok-copied.ensures ∙ ap (λ (p : SubRuns). sub_masks p) c.p-item.is)
