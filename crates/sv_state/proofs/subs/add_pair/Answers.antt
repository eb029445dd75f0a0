use Rattle.std.proofs.Common.{List, subst, sym}
use Rattle.sv_state.specs.declared.sub_runs.SubRuns.{SubRuns}
use Rattle.sv_state.specs.Masks.{Adds}
use Rattle.sv_state.specs.Numbers.{subs_masks}
use Rattle.sv_state.proofs.Instances.{subs_pushed}
use Rattle.sv_state.proofs.subs.add_pair.Goals as goal

pub returns : goal.returns
returns c =
    let subs = c.args.subs.now.items in
    subst (λ (ps : List SubRuns). Adds (subs_masks subs) (subs_masks ps) c.args.more)
    (sym c.in_ok-push.ensures.items) (subs_pushed subs c.in_ok-one.one c.args.more c.in_ok-one.ensures)
