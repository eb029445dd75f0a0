use Rattle.std.proofs.Common.{◌≤◌, arith}
use Rattle.sv_state.specs.declared.entry.Entry.{Entry}
use Rattle.sv_state.proofs.Any.{each_end, each_next}
use Rattle.sv_state.proofs.entry.newest_of.Goals as goal

pub loop-e-init : goal.loop-e-init
loop-e-init c = record { accesses = λ e on. absurd (let lt = on.1 in omega (arith, lt)); least = omega arith }

pub loop-e-preserved : goal.loop-e-preserved
loop-e-preserved c = record {
  accesses = each_next (λ (e : Entry). e.access.step ≤ c.max-newest.result) c.args.entries.now
      c.loop-e.e-index c.e-item.result c.loop-e-test.true c.e-item.is (omega arith)
      (λ e on. let u = c.loop-e.invariant.accesses e on in omega (arith, u));
  least = omega arith;
}

pub returns-clause-accesses : goal.returns-clause-accesses
returns-clause-accesses c = each_end (λ (e : Entry). e.access.step ≤ c.loop-e.newest) c.args.entries.now
    c.loop-e.e-index c.loop-e-test.false c.loop-e.invariant.accesses
