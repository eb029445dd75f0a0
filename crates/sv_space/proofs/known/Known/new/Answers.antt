use Rattle.sv_space.proofs.Keeping.{stands_of}
use Rattle.sv_space.proofs.known.Known.new.Goals as goal

pub returns-clause-stands : goal.returns-clause-stands
returns-clause-stands c = λ cell. stands_of _ 0 c.new.result (c.new.ensures.stands cell)
