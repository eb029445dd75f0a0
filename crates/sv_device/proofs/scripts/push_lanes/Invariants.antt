use Rattle.std.proofs.Common.{◌≡◌, ◌++◌, take}
use Rattle.sv_device.specs.Actors.{with_events}
use Rattle.sv_device.specs.declared.who.Who.TheVariants.{Lane}
use Rattle.sv_device.proofs.scripts.push_lanes.Given as goal

abbrev pub invariant-loop-script : goal.invariant-loop-script
invariant-loop-script l = record {
  number : l.lane ≡ l.script-index;
  actors : l.actors ≡ l.fn.actors ++ with_events Lane 0 (take l.script-index l.scripts);
}
