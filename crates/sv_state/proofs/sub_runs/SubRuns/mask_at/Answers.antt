use Rattle.sv_state.proofs.Instances.{sub_mask}
use Rattle.sv_state.proofs.sub_runs.SubRuns.mask_at.Goals as goal

pub returns : goal.returns
returns c = sub_mask c.args.self.now c.args.track c.args.instance c.mask_at.result c.requires
    (rw c.deref.ensures.value at c.mask_at.ensures)
