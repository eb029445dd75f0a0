use Rattle.std.proofs.Common.{ap}
use Rattle.sv_space.specs.Meant.{Meant}
use Rattle.sv_space.proofs.known.Known.check.Goals as goal

pub returns : goal.returns
returns c = λ story epoch st. c.check.ensures.partner story epoch
    (st c.self.inside.state (ap (λ (m : Meant). m.state) c.self.view_is))
