use Rattle.std.proofs.Common.{◌≡◌, ◌++◌, map, Bor}
use Rattle.sv_model.specs.declared.work.Item.{Item}
use Rattle.sv_model.specs.Holding.{held_item}
use Rattle.sv_gate.proofs.queues.push_held.Given as goal

abbrev pub invariant-loop-item : goal.invariant-loop-item
invariant-loop-item l = l.list ≡ l.fn.list ++ map held_item (map (λ (x : Bor Item). x.now) l.yielded)
