use Rattle.std.proofs.Common.{◌≡◌, ◌++◌, drop, take, map}
use Rattle.std.specs.List.{flat_map}
use Rattle.sv_model.specs.Holding.{held_calls, held_item}
use Rattle.sv_gate.specs.Gates.{came_in}
use Rattle.sv_gate.proofs.gate.Gate.held.Given as goal

abbrev pub invariant-loop-lane : goal.invariant-loop-lane
invariant-loop-lane l = l.list ++ held_calls l.lane (drop l.lane (map came_in l.self.lanes.items))
    ≡ held_calls 0 (map came_in l.self.lanes.items)

abbrev pub invariant-loop-queue : goal.invariant-loop-queue
invariant-loop-queue l = l.list ≡ l.initial.list ++ flat_map (map held_item)
    (take l.queue-index l.self.queues.items)
