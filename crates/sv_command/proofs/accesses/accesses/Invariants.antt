use Rattle.std.proofs.Common.{◌≡◌, take, map}
use Rattle.sv_model.specs.Recordings.{declared_access}
use Rattle.sv_model.specs.Positions.{accesses_from}
use Rattle.sv_command.proofs.accesses.accesses.Given as goal

abbrev pub invariant-loop-access : goal.invariant-loop-access
invariant-loop-access l = record {
  count : l.pos ≡ l.access-index;
  made : l.accesses ≡ accesses_from l.here.step 0
      (map (declared_access l.here) (take l.access-index l.declared));
}
