use Rattle.std.proofs.Common.{ap}
use Rattle.sv_space.specs.Meant.{Meant}
use Rattle.sv_space.proofs.known.Known.kept.Goals as goal

pub returns-clause-few : goal.returns-clause-few
returns-clause-few c = λ story epoch queues most st bounded. c.kept.ensures.few story epoch queues most
    (st c.self.inside.state (ap (λ (m : Meant). m.state) c.self.view_is)) bounded
