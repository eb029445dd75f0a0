use Rattle.std.proofs.Common.{arith}
use Rattle.sv_model.specs.Recordings as spec
use Rattle.sv_model.proofs.Positions.{accesses_pushed}
use Rattle.sv_command.proofs.accesses.accesses.Goals as goal

pub loop-access-preserved : goal.loop-access-preserved
loop-access-preserved c = record {
  count = omega arith;
  made = accesses_pushed (spec.declared_access c.args.here) c.args.here.step c.args.declared.now
      c.loop-access.access-index _ c.loop-access.pos c.declared_access.result c.loop-access.accesses _
      c.loop-access-test.true c.loop-access.invariant.count c.declared_access.ensures
      c.loop-access.invariant.made c.in_ok-push_or_drop.ensures.ok;
}
