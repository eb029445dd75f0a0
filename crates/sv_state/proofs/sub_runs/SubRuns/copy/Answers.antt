use Rattle.std.proofs.Common.{◌∙◌, refl}
use Rattle.sv_state.proofs.Instances.{sub_same}
use Rattle.sv_state.proofs.sub_runs.SubRuns.copy.Goals as goal

pub returns : goal.returns
returns c = sub_same c.args.self.now _ refl refl (c.in_ok-runs.ensures.items ∙ c.as_slice.ensures.value)
