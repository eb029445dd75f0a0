use Rattle.std.proofs.Common.{◌≡◌, map, take}
use Rattle.sv_mask.specs.Scopes.{signal, no_usages}
use Rattle.sv_model.specs.declared.work.Dep.{Dep}
use Rattle.sv_model.specs.declared.work.Track.TheVariants as track
use Rattle.sv_binding.proofs.halves.wait_deps.Given as goal

abbrev pub invariant-loop-dep : goal.invariant-loop-dep
invariant-loop-dep l = l.half ≡ map (λ (d : Dep). record d
    { from = track.Token l.token; s1 = signal; a1 = no_usages }) (take l.dep-index l.deps)
