use Rattle.std.proofs.Common.{arith, refl}
use Rattle.sv_space.proofs.Patterned.{asked_full, quiet_then}
use Rattle.sv_space.proofs.passing.next_in.Goals as goal

pub loop-place-init : goal.loop-place-init
loop-place-init c = record {
  first = omega arith;
  known = asked_full c.args.state.now c.args.patterns.now.items
      (record { quiet = c.args.full.now; loud = 0; full = c.args.full.now }) c.args.full.now
      c.full_are_quiet.ensures refl refl c.requires.known;
  passed = λ j d le lt within. absurd (omega (arith, le, lt));
}

pub loop-place-preserved : goal.loop-place-preserved
loop-place-preserved c =
    let was = c.loop-place.invariant in
    let on = c.in-Some.ensures in record {
      first = (let f = was.first in let g = on.further in omega (arith, f, g));
      known = c.pass.ensures.known;
      passed = quiet_then c.args.state.now c.args.patterns.now.items c.args.numbers.now.items c.args.from
          c.loop-place.place c.in-Some.next was.passed on.quiet;
    }

pub returns-then-from-len-clause-quiet : goal.returns-then-from-len-clause-quiet
returns-then-from-len-clause-quiet c = λ j d le lt within. c.loop-place.invariant.passed j d le
    (omega (arith, within)) within
