use Rattle.sv_state.proofs.Instances.{from_no_token}
use Rattle.sv_state.proofs.Parts.{never}
use Rattle.sv_state.proofs.runs.tokens_lead.Goals as goal

pub returns-in_default : goal.returns-in_default
returns-in_default c = never (from_no_token c.args.runs.now c.args.d.now c.in_default.not-Token)
