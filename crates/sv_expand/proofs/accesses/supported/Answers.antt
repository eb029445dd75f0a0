use Rattle.sv_expand.proofs.AccessScopes.{supported-rows}
use Rattle.sv_expand.proofs.accesses.supported.Goals as goal

pub returns : goal.returns
returns c = supported-rows c.args.stages c.args.accesses _ c.union_of_rows-at.ensures
