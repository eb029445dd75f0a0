use Rattle.std.proofs.Common.{◌≡◌, ◌++◌, map, Bor}
use Rattle.sv_model.specs.declared.work.Held.TheVariants as held
use Rattle.sv_gate.specs.declared.waiting.Waiting.{Waiting}
use Rattle.sv_gate.proofs.lanes.push_held.Given as goal

abbrev pub invariant-loop-waiting : goal.invariant-loop-waiting
invariant-loop-waiting l = l.list ≡ l.fn.list ++ map (λ (x : Waiting). held.Call l.lane x.index)
    (map (λ (x : Bor Waiting). x.now) l.yielded)
