use Rattle.std.proofs.Common.{arith, get_or}
use Rattle.sv_space.specs.Counts.{pieces_on}
use Rattle.sv_space.proofs.Fewer.{same_sum}
use Rattle.sv_space.proofs.LineStepped.{line_stepped, line_stepped_none, lines_cut, lines_stepped}
use Rattle.sv_space.proofs.LineStepped.{marked_caught}
use Rattle.sv_space.proofs.OneLine.{lies_same, lines_same, same_then, sorted_same}
use Rattle.sv_space.proofs.touching.record_all.Goals as goal

pub loop-number-init : goal.loop-number-init
loop-number-init c = record {
  same = lines_same c.args.lines.now.items;
  within = λ n h. h;
  upto = λ at n caught. caught;
  stepped = λ k d lt. line_stepped_none c.args.accesses.now c.args.groups.now
      (get_or c.args.lines.now.items k d);
}

pub record_one-requires-clause-sorted : goal.record_one-requires-clause-sorted
record_one-requires-clause-sorted c = sorted_same c.args.lines.now.items c.loop-number.lines.items
    c.loop-number.invariant.same c.requires.sorted

pub record_one-requires-clause-lies : goal.record_one-requires-clause-lies
record_one-requires-clause-lies c = λ x on. lies_same c.args.lines.now.items c.loop-number.lines.items
    c.loop-number.invariant.same x.area (c.requires.lies x on)

pub record_one-requires-clause-cut : goal.record_one-requires-clause-cut
record_one-requires-clause-cut c = λ x on. lines_cut c.args.accesses.now c.args.groups.now
    c.loop-number.number c.args.lines.now.items c.loop-number.lines.items c.loop-number.invariant.same
    c.loop-number.invariant.stepped x.area (c.requires.cut x on)

pub loop-number-preserved : goal.loop-number-preserved
loop-number-preserved c =
    let was = c.loop-number.invariant in
    let one = c.in_ok-record_one.ensures in
    let first = c.args.lines.now.items in
    let old = c.loop-number.lines.items in
    let new = c.record_one.new.lines.items in record {
      same = same_then first old new was.same one.same;
      within = λ n h. one.within n (was.within n h);
      upto = λ at n caught. marked_caught c.args.accesses.now c.args.groups.now c.loop-number.number
          c.loop-number-test.true old new one.same one.marked at n (was.upto at n caught);
      stepped = λ k d lt. line_stepped c.args.accesses.now c.args.groups.now c.loop-number.number
          (get_or first k d) (get_or old k d) (get_or new k d) (was.same.same k d) c.loop-number-test.true
          (one.marked k d (let l = was.same.long in omega (arith, l, lt))) (was.stepped k d lt);
    }

pub returns-clause-stands : goal.returns-clause-stands
returns-clause-stands c = λ work step is caught ranges stand.
    lines_stepped c.args.accesses.now c.args.groups.now c.loop-number.number c.args.lines.now.items
    c.loop-number.lines.items (omega arith) c.loop-number.invariant.same c.loop-number.invariant.stepped
    c.requires.cut work step is caught ranges stand

pub returns-in_err-record_one-clause-within : goal.returns-in_err-record_one-clause-within
returns-in_err-record_one-clause-within c = λ n h. c.record_one.ensures.within n
    (c.loop-number.invariant.within n h)

pub returns-in_err-record_one-clause-same : goal.returns-in_err-record_one-clause-same
returns-in_err-record_one-clause-same c = same_then c.args.lines.now.items c.loop-number.lines.items
    c.record_one.new.lines.items c.loop-number.invariant.same c.record_one.ensures.same

pub returns-clause-few : goal.returns-clause-few
returns-clause-few c = same_sum pieces_on c.args.lines.now.items c.loop-number.lines.items
    c.loop-number.invariant.same.long (λ k d lt. (c.loop-number.invariant.stepped k d lt).spans.long)
