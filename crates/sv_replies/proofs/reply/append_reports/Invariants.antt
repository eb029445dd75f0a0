use Rattle.std.proofs.Common.{◌≡◌, ◌++◌}
use Rattle.sv_replies.proofs.reply.append_reports.Given as goal

abbrev pub invariant-loop-report : goal.invariant-loop-report
invariant-loop-report l = l.reports ≡ l.fn.reports ++ l.yielded
