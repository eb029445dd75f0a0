use Rattle.std.proofs.Common.{◌≡◌, take}
use Rattle.sv_app.specs.Answer.{printed_reports}
use Rattle.sv_app.proofs.answer.printed_reports.Given as goal

abbrev pub invariant-loop-reply : goal.invariant-loop-reply
invariant-loop-reply l = l.reports.items ≡ printed_reports (take l.reply-index l.replies)
