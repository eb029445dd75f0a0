use Rattle.std.proofs.Common.{◌≡◌, ◌+◌, ◌-◌, length}
use Rattle.sv_device.specs.Actors.{script_of}
use Rattle.sv_device.proofs.runs.run.Given as goal

abbrev pub invariant-loop : goal.invariant-loop
invariant-loop g l = record {
  who : l.actor.who ≡ l.fn.actor.who;
  index : l.actor.index ≡ l.fn.actor.index;
  left : l.actor.place + (l.end - l.counter) ≡ length (script_of g.C.Case.trace l.actor.who);
}
