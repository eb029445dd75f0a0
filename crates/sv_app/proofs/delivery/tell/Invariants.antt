use Rattle.std.proofs.Common.{◌-◌, length, take}
use Rattle.sv_hub.specs.Attachments.{HasHeard, HasRoom}
use Rattle.sv_app.proofs.delivery.tell.Given as goal

abbrev pub invariant-loop-report : goal.invariant-loop-report
invariant-loop-report g l = record {
  heard : HasHeard (take l.report-index l.reports) (g.H.Audience.attachments l.fn.hub)
      (g.H.Audience.attachments l.hub);
  room : HasRoom (length l.reports - l.report-index) (g.H.Audience.attachments l.hub);
}
