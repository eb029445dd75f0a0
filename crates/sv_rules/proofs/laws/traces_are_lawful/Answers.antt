use Rattle.sv_rules.proofs.Whole.{trace_lawful}
use Rattle.sv_rules.proofs.laws.traces_are_lawful.Goals as goal

pub returns : goal.returns
returns c lines h e = trace_lawful lines h e
