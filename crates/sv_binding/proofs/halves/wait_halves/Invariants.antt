use Rattle.std.proofs.Common.{◌≡◌, ◌+◌, take}
use Rattle.sv_model.specs.Events as spec
use Rattle.sv_binding.proofs.halves.wait_halves.Given as goal

abbrev pub invariant-loop-group : goal.invariant-loop-group
invariant-loop-group l = (l.halves ≡ spec.with_tokens (spec.wait_half l.place) l.token
    (take l.group-index l.groups)) × (l.next ≡ l.token + l.group-index)
