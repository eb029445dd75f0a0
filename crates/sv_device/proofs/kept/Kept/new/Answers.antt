use Rattle.sv_device.proofs.Keeping.{kept_first}
use Rattle.sv_device.proofs.kept.Kept.new.Goals as goal

pub invariant_of-result : goal.invariant_of-result
invariant_of-result g c = kept_first g.C.Case.trace g.C.Case.board c.args.validator c.args.book
    c.requires.lawful c.requires.validator.0 c.requires.validator.1 c.requires.book
