use Rattle.std.proofs.Common.{◌≡◌, List, Contains, Some, arith, subst, sym, take}
use Rattle.std.specs.Prelude.{sum_by}
use Rattle.std.proofs.lemmas.List.{take_all}
use Rattle.sv_model.specs.declared.work.Area.{Area}
use Rattle.sv_model.specs.declared.work.Dep.{Dep}
use Rattle.sv_model.specs.declared.work.Group.{Group}
use Rattle.sv_space.specs.AllLines.{AreAllCut}
use Rattle.sv_space.specs.Runs.{group_runs}
use Rattle.sv_space.proofs.Fewer.{grown_all, grown_more, grown_none}
use Rattle.sv_space.proofs.Taken.{each_more, none_yet}
use Rattle.sv_space.proofs.OneLine.{all_cut_later, all_later_of_parts, all_parts_same, all_parts_then}
use Rattle.sv_space.proofs.OneLine.{lies_same, lines_same, same_then, sorted_same}
use Rattle.sv_space.proofs.lines.cut_groups.Goals as goal

pub loop-group-init : goal.loop-group-init
loop-group-init c = record {
  same = lines_same c.args.lines.now.items;
  parts = all_parts_same c.args.lines.now.items;
  cut = none_yet c.args.groups.now (λ g. (d : Dep) (area : Area) → Contains g.deps d → d.range ≡ Some area
      → AreAllCut area c.args.lines.now.items);
  few = grown_none (sum_by group_runs (take 0 c.args.groups.now)) c.args.lines.now.items;
}

pub cut_group-requires-clause-sorted : goal.cut_group-requires-clause-sorted
cut_group-requires-clause-sorted c = sorted_same c.args.lines.now.items c.loop-group.lines.items
    c.loop-group.invariant.same c.requires.sorted

pub cut_group-requires-clause-lies : goal.cut_group-requires-clause-lies
cut_group-requires-clause-lies c = λ d area on is.
    lies_same c.args.lines.now.items c.loop-group.lines.items c.loop-group.invariant.same area
    (c.requires.lies area (record {
      group = c.group-item.result;
      dep = d;
      listed = (c.loop-group.group-index, c.loop-group-test.true, sym c.group-item.is);
      in_group = on;
      is = is;
    }))

pub loop-group-preserved : goal.loop-group-preserved
loop-group-preserved c =
    let was = c.loop-group.invariant in
    let one = c.in_ok-cut_group.ensures in
    let first = c.args.lines.now.items in
    let old = c.loop-group.lines.items in
    let new = c.cut_group.new.lines.items in record {
      same = same_then first old new was.same one.same;
      parts = all_parts_then first old new was.same was.parts one.parts;
      cut = each_more c.args.groups.now c.loop-group.group-index c.group-item.result c.loop-group-test.true
          (sym c.group-item.is)
          (λ g. (d : Dep) (area : Area) → Contains g.deps d → d.range ≡ Some area → AreAllCut area old)
          (λ g. (d : Dep) (area : Area) → Contains g.deps d → d.range ≡ Some area → AreAllCut area new)
          (λ g cut d area on is. all_cut_later old new one.same 0
          (all_later_of_parts 0 new old one.parts) area (cut d area on is)) one.cut was.cut;
      few = grown_more group_runs c.args.groups.now c.loop-group.group-index first new c.group-item.result
          c.loop-group-test.true (sym c.group-item.is) old was.few one.few;
    }

pub returns-in_err-cut_group-clause-same : goal.returns-in_err-cut_group-clause-same
returns-in_err-cut_group-clause-same c = same_then c.args.lines.now.items c.loop-group.lines.items
    c.cut_group.new.lines.items c.loop-group.invariant.same c.cut_group.ensures.same

pub returns-in_err-cut_group-clause-parts : goal.returns-in_err-cut_group-clause-parts
returns-in_err-cut_group-clause-parts c = all_parts_then c.args.lines.now.items c.loop-group.lines.items
    c.cut_group.new.lines.items c.loop-group.invariant.same c.loop-group.invariant.parts
    c.cut_group.ensures.parts

pub returns-clause-cut : goal.returns-clause-cut
returns-clause-cut c = λ area range.
    c.loop-group.invariant.cut range.group (subst (λ (gs : List Group). Contains gs range.group)
    (sym (take_all c.loop-group.group-index c.args.groups.now (omega arith))) range.listed) range.dep area
    range.in_group range.is

pub returns-clause-few : goal.returns-clause-few
returns-clause-few c = grown_all group_runs c.args.groups.now c.loop-group.group-index
    c.args.lines.now.items c.loop-group.lines.items (omega arith) c.loop-group.invariant.few
