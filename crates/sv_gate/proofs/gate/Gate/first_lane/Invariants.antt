use Rattle.std.proofs.Common.{ℕ, ◌≡◌, ◌<◌, [], false, get_or}
use Rattle.sv_model.specs.declared.line.Trace.{Trace}
use Rattle.sv_model.specs.Primitives.{Past, Made}
use Rattle.sv_model.specs.Holding.{call_ready, Holding, starts, first_calls}
use Rattle.sv_model.specs.Lawful.{IsLawful}
use Rattle.sv_fence.specs.Stands.{FencesStandFor}
use Rattle.sv_gate.specs.Kept.{Agrees}
use Rattle.sv_gate.specs.Gates.{IsGateOf}
use Rattle.sv_gate.proofs.gate.Gate.first_lane.Given as goal

abbrev pub invariant-loop-lane : goal.invariant-loop-lane
invariant-loop-lane l = (t : Trace) (h : Holding) (m : Made) (p : Past) → IsLawful t → IsGateOf t h l.self
    → FencesStandFor t m l.fences → Agrees t h.events m p → (k : ℕ) → k < l.lane
    → starts (call_ready p h.events h.queues) (get_or (first_calls t 0 h.lanes) k []) ≡ false
