use Rattle.std.proofs.Common.{◌≡◌, ◌++◌, take}
use Rattle.sv_device.specs.Actors.{with_events}
use Rattle.sv_device.specs.declared.who.Who.TheVariants.{Recorder}
use Rattle.sv_device.proofs.scripts.push_recorders.Given as goal

abbrev pub invariant-loop-script : goal.invariant-loop-script
invariant-loop-script l = record {
  number : l.recorder ≡ l.script-index;
  actors : l.actors ≡ l.fn.actors ++ with_events Recorder 0 (take l.script-index l.scripts);
}
