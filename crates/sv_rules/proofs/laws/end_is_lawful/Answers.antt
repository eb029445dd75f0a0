use Rattle.sv_rules.proofs.Whole.{is_lawful}
use Rattle.sv_rules.proofs.laws.end_is_lawful.Goals as goal

pub returns : goal.returns
returns c lines t h e = is_lawful lines t h e
