use Rattle.std.proofs.Common.{◌≡◌, map, take}
use Rattle.sv_model.specs.declared.work.Access.{Access}
use Rattle.sv_binding.proofs.halves.wait_transitions.Given as goal

abbrev pub invariant-loop-access : goal.invariant-loop-access
invariant-loop-access l = l.half ≡ map (λ (a : Access). record a { place = l.place })
    (take l.access-index l.list)
