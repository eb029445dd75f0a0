use Rattle.sv_rules.proofs.Passing.{passes}
use Rattle.sv_rules.proofs.EachLine.{lawful}
use Rattle.sv_rules.proofs.laws.lines_are_lawful.Goals as goal

pub returns : goal.returns
returns c s l e formed = lawful s l (passes s l e) formed
