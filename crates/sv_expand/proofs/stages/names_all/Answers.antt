use Rattle.sv_expand.proofs.StageScopes.{device-all}
use Rattle.sv_expand.proofs.stages.names_all.Goals as goal

pub returns : goal.returns
returns c = device-all c.args.word.plain.0
