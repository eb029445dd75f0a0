use Rattle.sv_rules.proofs.EachStep.{after_line}
use Rattle.sv_rules.proofs.laws.each_line_keeps_law.Goals as goal

pub returns : goal.returns
returns c s line h e formed = after_line s line h e formed
