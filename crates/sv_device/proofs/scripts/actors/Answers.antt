use Rattle.std.proofs.Common.{rules, ◌≡◌, length, ap, arith}
use Rattle.sv_device.specs.Actors.{actors_of}
use Rattle.sv_device.proofs.Seats.{few_actors}
use Rattle.sv_device.proofs.scripts.actors.Goals as goal

pub returns-clause-few : goal.returns-clause-few
returns-clause-few c =
    let is : c.push_recorders.new.actors ≡ actors_of c.args.trace.now = search rules in
    let same = ap length is in
    let le = few_actors c.args.trace.now c.requires in
    omega (arith, same, le)
