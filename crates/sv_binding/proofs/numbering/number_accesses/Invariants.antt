use Rattle.std.proofs.Common.{◌≡◌, ◌+◌, take}
use Rattle.sv_model.specs.Positions.{accesses_from}
use Rattle.sv_binding.proofs.numbering.number_accesses.Given as goal

abbrev pub invariant-loop-access : goal.invariant-loop-access
invariant-loop-access l = (l.numbered ≡ accesses_from l.step l.first (take l.access-index l.accesses))
    × (l.pos ≡ l.first + l.access-index)
