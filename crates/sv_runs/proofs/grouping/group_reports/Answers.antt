use Rattle.std.proofs.Common.{◌∙◌, ap, refl, ℕ, ◌∷◌, ◌++◌, []}
use Rattle.sv_runs.proofs.Numbers.{one_added, all_added}
use Rattle.sv_runs.proofs.grouping.group_reports.Goals as goal

pub loop-report-preserved : goal.loop-report-preserved
loop-report-preserved c = one_added c.args.reports.now c.loop-report.grouped c.add_run.new.reports
    c.loop-report.report-index _ _ c.loop-report.numbers.items c.push.new.self.items c.loop-report-test.true
    refl c.loop-report.invariant c.in_ok-add_run.ensures.whole c.in_ok-add_run.ensures.runs
    c.in_ok-add_run.ensures.grown (c.in_ok-push.ensures.items
    ∙ ap (λ (n : ℕ). c.loop-report.numbers.items ++ n ∷ []) c.len.ensures)

pub returns-clause-moves : goal.returns-clause-moves
returns-clause-moves c = (all_added c.args.reports.now c.loop-report.grouped c.loop-report.report-index
    c.loop-report.numbers.items c.loop-report-test.false c.loop-report.invariant).1
