use Rattle.std.proofs.Common.{arith}
use Rattle.sv_device.proofs.Seats.{actor_fits}
use Rattle.sv_device.proofs.actor.Actor.number.Goals as goal

pub number-requires : goal.number-requires
number-requires g c =
    let lt = actor_fits g.C.Case.trace c.self.inside.index c.self.inside.who c.self.invariant.lawful
    c.self.invariant.actor in
    omega (arith, lt)
