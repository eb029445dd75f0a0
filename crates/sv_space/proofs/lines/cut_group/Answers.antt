use Rattle.std.proofs.Common.{◌≡◌, ◌∙◌, List, Contains, Some, arith, get_or, subst, sym, take}
use Rattle.std.specs.Prelude.{sum_by}
use Rattle.std.proofs.lemmas.List.{get_or_default, take_all}
use Rattle.sv_model.specs.declared.work.Area.{Area}
use Rattle.sv_model.specs.declared.work.Dep.{Dep}
use Rattle.sv_space.specs.AllLines.{AreAllCut}
use Rattle.sv_space.specs.Growth.{GrowBy}
use Rattle.sv_space.specs.Runs.{dep_runs}
use Rattle.sv_space.proofs.Fewer.{grown_all, grown_more, grown_none}
use Rattle.sv_space.proofs.Taken.{each_more, none_yet}
use Rattle.sv_space.proofs.OneLine.{all_cut_later, all_later_of_parts, all_parts_same, all_parts_then}
use Rattle.sv_space.proofs.OneLine.{lies_same, lines_same, same_then, sorted_same}
use Rattle.sv_space.proofs.lines.cut_group.Goals as goal

pub loop-dep-init : goal.loop-dep-init
loop-dep-init c = record {
  same = lines_same c.args.lines.now.items;
  parts = all_parts_same c.args.lines.now.items;
  cut = none_yet c.as_slice-deps.result.now (λ d. (area : Area) → d.range ≡ Some area
      → AreAllCut area c.args.lines.now.items);
  few = grown_none (sum_by dep_runs (take 0 c.as_slice-deps.result.now)) c.args.lines.now.items;
}

pub cut_range-requires-clause-sorted : goal.cut_range-requires-clause-sorted
cut_range-requires-clause-sorted c = sorted_same c.args.lines.now.items c.loop-dep.lines.items
    c.loop-dep.invariant.same c.requires.sorted

pub cut_range-requires-clause-lies : goal.cut_range-requires-clause-lies
cut_range-requires-clause-lies c =
    let xs = c.as_slice-deps.result.now in
    let i = c.loop-dep.dep-index in
    let lt = c.loop-dep-test.true in
    let at = λ (e : Dep) (area : Area) (is : (get_or xs i e).range ≡ Some area). lies_same
    c.args.lines.now.items c.loop-dep.lines.items c.loop-dep.invariant.same area
    (c.requires.lies (get_or xs i e) area (subst (λ (ds : List Dep). Contains ds (get_or xs i e))
    c.as_slice-deps.ensures (i, lt, get_or_default xs i (get_or xs i e) e lt)) is) in
    at _

pub loop-dep-preserved : goal.loop-dep-preserved
loop-dep-preserved c =
    let was = c.loop-dep.invariant in
    let one = c.in_ok-cut_range.ensures in
    let xs = c.as_slice-deps.result.now in
    let i = c.loop-dep.dep-index in
    let lt = c.loop-dep-test.true in
    let first = c.args.lines.now.items in
    let old = c.loop-dep.lines.items in
    let new = c.cut_range.new.lines.items in record {
      same = same_then first old new was.same one.same;
      parts = all_parts_then first old new was.same was.parts one.parts;
      cut = each_more xs i _ lt (get_or_default xs i _ _ lt)
          (λ d. (area : Area) → d.range ≡ Some area → AreAllCut area old)
          (λ d. (area : Area) → d.range ≡ Some area → AreAllCut area new)
          (λ d cut area is. all_cut_later old new one.same 0 (all_later_of_parts 0 new old one.parts) area
          (cut area is)) one.cut was.cut;
      few = grown_more dep_runs xs i first new _ lt (get_or_default xs i _ _ lt) old was.few one.few;
    }

pub returns-in_err-cut_range-clause-same : goal.returns-in_err-cut_range-clause-same
returns-in_err-cut_range-clause-same c = same_then c.args.lines.now.items c.loop-dep.lines.items
    c.cut_range.new.lines.items c.loop-dep.invariant.same c.cut_range.ensures.same

pub returns-in_err-cut_range-clause-parts : goal.returns-in_err-cut_range-clause-parts
returns-in_err-cut_range-clause-parts c = all_parts_then c.args.lines.now.items c.loop-dep.lines.items
    c.cut_range.new.lines.items c.loop-dep.invariant.same c.loop-dep.invariant.parts
    c.cut_range.ensures.parts

pub returns-clause-cut : goal.returns-clause-cut
returns-clause-cut c = λ d area on is.
    c.loop-dep.invariant.cut d (subst (λ (ds : List Dep). Contains ds d)
    (sym (take_all c.loop-dep.dep-index c.as_slice-deps.result.now (omega arith)
    ∙ c.as_slice-deps.ensures)) on) area is

pub returns-clause-few : goal.returns-clause-few
returns-clause-few c = subst (λ (ds : List Dep). GrowBy (sum_by dep_runs ds) c.args.lines.now.items
    c.loop-dep.lines.items) c.as_slice-deps.ensures
    (grown_all dep_runs c.as_slice-deps.result.now c.loop-dep.dep-index c.args.lines.now.items
    c.loop-dep.lines.items (omega arith) c.loop-dep.invariant.few)
