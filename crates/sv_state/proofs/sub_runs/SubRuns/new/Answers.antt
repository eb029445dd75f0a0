use Rattle.sv_state.proofs.Instances.{sub_none}
use Rattle.sv_state.proofs.sub_runs.SubRuns.new.Goals as goal

pub returns-clause-none : goal.returns-clause-none
returns-clause-none c = sub_none _ c.new.ensures.items
