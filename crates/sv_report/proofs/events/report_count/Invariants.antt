use Rattle.std.proofs.Common.{◌≡◌, ◌*◌, ◌^◌, ◌≤◌, take}
use Rattle.sv_report.specs.Text.{report_count}
use Rattle.sv_report.proofs.events.report_count.Given as goal

abbrev pub invariant-loop-reply : goal.invariant-loop-reply
invariant-loop-reply l = record {
  counted : l.count ≡ report_count (take l.reply-index l.replies);
  bounded : l.count ≤ l.reply-index * (2 ^ 64);
}
