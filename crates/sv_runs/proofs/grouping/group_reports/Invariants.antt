use Rattle.sv_runs.proofs.Numbers.{AreAdded}
use Rattle.sv_runs.proofs.grouping.group_reports.Given as goal

abbrev pub invariant-loop-report : goal.invariant-loop-report
invariant-loop-report l = AreAdded l.reports l.report-index l.grouped l.numbers.items
