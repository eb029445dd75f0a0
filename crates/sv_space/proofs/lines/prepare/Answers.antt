use Rattle.std.proofs.Common.{List, Contains, refl, arith, length, subst, take}
use Rattle.std.specs.Prelude.{sum_by}
use Rattle.std.proofs.lemmas.List.{get_or_default, take_all}
use Rattle.sv_model.specs.declared.work.Access.{Access}
use Rattle.sv_space.specs.AllLines.{AreAllCaught, AreAllCut}
use Rattle.sv_space.specs.Runs.{access_runs}
use Rattle.sv_space.proofs.Counted.{none_sum}
use Rattle.sv_space.proofs.Fewer.{grown_all, grown_more, grown_none}
use Rattle.sv_space.proofs.Taken.{each_more, none_yet}
use Rattle.sv_space.proofs.OneLine.{all_caught_later, all_cut_later, lies_same, lines_same, same_then}
use Rattle.sv_space.proofs.OneLine.{sorted_same}
use Rattle.sv_space.proofs.lines.prepare.Goals as goal

pub loop-access-init : goal.loop-access-init
loop-access-init c = record {
  same = lines_same c.args.lines.now.items;
  within = c.requires.within;
  stands = λ work are log_is stand. stand;
  others = λ at n apart caught. caught;
  still = λ at caught. caught;
  none = λ all. refl;
  few = grown_none (sum_by access_runs (take 0 c.args.accesses.now)) c.args.lines.now.items;
  cut = none_yet c.args.accesses.now (λ x. AreAllCut x.area c.args.lines.now.items);
  caught = none_yet c.args.accesses.now (λ x. AreAllCaught x.area
      (length c.args.log.now) c.args.lines.now.items);
}

pub prepare_area-requires-clause-sorted : goal.prepare_area-requires-clause-sorted
prepare_area-requires-clause-sorted c = sorted_same c.args.lines.now.items c.loop-access.lines.items
    c.loop-access.invariant.same c.requires.sorted

pub prepare_area-requires-clause-lies : goal.prepare_area-requires-clause-lies
prepare_area-requires-clause-lies c =
    let xs = c.args.accesses.now in
    let i = c.loop-access.access-index in
    let lt = c.loop-access-test.true in
    lies_same c.args.lines.now.items c.loop-access.lines.items c.loop-access.invariant.same _
    (c.requires.lies _ (i, lt, get_or_default xs i _ _ lt))

pub prepare_area-requires-clause-within : goal.prepare_area-requires-clause-within
prepare_area-requires-clause-within c = c.loop-access.invariant.within

pub loop-access-preserved : goal.loop-access-preserved
loop-access-preserved c =
    let was = c.loop-access.invariant in
    let one = c.in_ok-more.ensures in
    let xs = c.args.accesses.now in
    let i = c.loop-access.access-index in
    let lt = c.loop-access-test.true in
    let n = length c.args.log.now in
    let first = c.args.lines.now.items in
    let old = c.loop-access.lines.items in
    let new = c.prepare_area.new.lines.items in record {
      same = same_then first old new was.same one.same;
      within = one.within;
      stands = λ work are log_is stand. one.stands work are log_is (was.stands work are log_is stand);
      others = λ at m apart caught. one.others at m (apart _ (i, lt, get_or_default xs i _ _ lt))
          (was.others at m apart caught);
      still = λ at caught. all_caught_later old new one.same n one.later at (was.still at caught);
      none = λ all. none_sum c.loop-access.given c.in_ok-more.more c.saturating_add-given.result
          c.saturating_add-given.ensures (was.none all)
          (one.none (was.still _ (all _ (i, lt, get_or_default xs i _ _ lt))));
      few = grown_more access_runs xs i first new _ lt (get_or_default xs i _ _ lt) old was.few one.few;
      cut = each_more xs i _ lt (get_or_default xs i _ _ lt) (λ x. AreAllCut x.area old)
          (λ x. AreAllCut x.area new) (λ x was_cut. all_cut_later old new one.same n one.later x.area was_cut)
          one.cut was.cut;
      caught = each_more xs i _ lt (get_or_default xs i _ _ lt) (λ x. AreAllCaught x.area n old)
          (λ x. AreAllCaught x.area n new) (λ x was_caught. all_caught_later old new one.same n one.later
          x.area was_caught) one.caught was.caught;
    }

pub returns-clause-cut : goal.returns-clause-cut
returns-clause-cut c = subst (λ (xs : List Access). (x : Access) → Contains xs x
    → AreAllCut x.area c.loop-access.lines.items)
    (take_all c.loop-access.access-index c.args.accesses.now (omega arith)) c.loop-access.invariant.cut

pub returns-clause-caught : goal.returns-clause-caught
returns-clause-caught c = subst (λ (xs : List Access). (x : Access) → Contains xs x
    → AreAllCaught x.area (length c.args.log.now) c.loop-access.lines.items)
    (take_all c.loop-access.access-index c.args.accesses.now (omega arith)) c.loop-access.invariant.caught

pub returns-clause-few : goal.returns-clause-few
returns-clause-few c = grown_all access_runs c.args.accesses.now c.loop-access.access-index
    c.args.lines.now.items c.loop-access.lines.items (omega arith) c.loop-access.invariant.few
