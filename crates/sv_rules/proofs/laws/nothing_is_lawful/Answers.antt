use Rattle.sv_rules.proofs.Whole.{before_any}
use Rattle.sv_rules.proofs.laws.nothing_is_lawful.Goals as goal

pub returns : goal.returns
returns c = before_any
