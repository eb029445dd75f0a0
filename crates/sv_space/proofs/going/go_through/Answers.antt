use Rattle.std.proofs.Common.{arith}
use Rattle.sv_state.specs.Contents.{contents_of}
use Rattle.sv_space.proofs.Patterned.{full_none}
use Rattle.sv_space.proofs.PassedOver.{gone_on, may_on, none_taken, rest_taken}
use Rattle.sv_space.proofs.going.go_through.Goals as goal

pub loop-done-init : goal.loop-done-init
loop-done-init c = record {
  first = omega arith;
  known = full_none c.args.state.now c.args.patterns.now.items;
  listed = c.requires.from;
  gone = λ cell only may. none_taken cell c.args.groups.now.items c.args.from (contents_of c.args.state.now);
}

pub loop-done-preserved : goal.loop-done-preserved
loop-done-preserved c =
    let was = c.loop-done.invariant in
    let on = c.in_ok-next.ensures in record {
      first = (let f = was.first in let g = on.further.0 in omega (arith, f, g));
      known = on.known;
      listed = on.further.1;
      gone = λ cell only may. (
          let before = was.gone cell only may in
          gone_on cell c.args.groups.now.items c.args.from c.loop-done.done c.in_ok-next.next
          (contents_of c.args.state.now) (contents_of c.loop-done.state)
          (contents_of c.go_on.new.state) was.first (let g = on.further.0 in omega (arith, g)) before
          (on.gone cell only (may_on cell c.args.groups.now.items c.args.from c.loop-done.done
          (contents_of c.args.state.now) (contents_of c.loop-done.state) was.first may before)));
    }

pub returns : goal.returns
returns c = λ cell only may. rest_taken cell c.args.groups.now.items c.args.from c.loop-done.done
    (contents_of c.args.state.now) (contents_of c.loop-done.state) (omega arith)
    (c.loop-done.invariant.gone cell only may)
