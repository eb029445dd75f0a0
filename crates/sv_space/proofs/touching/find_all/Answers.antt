use Rattle.std.proofs.Common.{◌++◌, ◌∷◌, [], ◌∙◌, List, ap, arith, length, subst, sym}
use Rattle.sv_model.specs.Reports.{Spot, spots_of}
use Rattle.sv_space.specs.Found.{AreFound, IsOfFirst}
use Rattle.sv_runs.specs.Runs.{AreRuns}
use Rattle.sv_space.proofs.FoundIn.{found_end, found_start}
use Rattle.sv_space.proofs.FoundStep.{found_step}
use Rattle.sv_runs.proofs.JoinedReports.{runs_none, spots_none}
use Rattle.sv_space.proofs.touching.find_all.Goals as goal

pub loop-access-init : goal.loop-access-init
loop-access-init c = record {
  runs = subst AreRuns (sym c.new-reports.ensures) runs_none;
  found = λ work step is caught stand. subst (λ (ts : List Spot). AreFound (length work) (work ++ step ∷ [])
      (IsOfFirst 0) ts) (sym (ap spots_of c.new-reports.ensures ∙ spots_none)) (found_start work step);
}

pub find-requires-clause-runs : goal.find-requires-clause-runs
find-requires-clause-runs c = c.loop-access.invariant.runs

pub loop-access-preserved : goal.loop-access-preserved
loop-access-preserved c = record {
  runs = c.in_ok-find.ensures.runs;
  found = found_step c.args.accesses.now c.args.groups.now c.loop-access.access-index
      c.loop-access-test.true c.args.lines.now c.place_of-at.result c.index-lines-at.result
      c.index-lines-at.is c.place_of-at.ensures.listed c.own_group-own.result _ c.own_group-own.ensures
      (spots_of c.loop-access.reports) (spots_of c.find.new.reports) c.in_ok-find.ensures.found
      c.loop-access.invariant.found;
}

pub returns-clause-reports : goal.returns-clause-reports
returns-clause-reports c = λ work step is caught stand.
    found_end work is.steps step is.next c.loop-access.access-index (spots_of c.loop-access.reports)
    (let e = ap length is.accesses_is in let t = c.loop-access-test.false in omega (arith, e, t))
    (c.loop-access.invariant.found work step is caught stand)
