use Rattle.std.proofs.Common.{ℕ, ◌≡◌, ◌<◌, [], false, get_or}
use Rattle.sv_model.specs.declared.line.Trace.{Trace}
use Rattle.sv_model.specs.Primitives.{Past, Made}
use Rattle.sv_model.specs.Holding.{item_ready, Holding, starts}
use Rattle.sv_model.specs.Lawful.{IsLawful}
use Rattle.sv_sema.specs.Stands.{SemaphoresStandFor}
use Rattle.sv_gate.specs.Kept.{Agrees}
use Rattle.sv_gate.specs.Gates.{IsGateOf}
use Rattle.sv_gate.proofs.gate.Gate.first_queue.Given as goal

abbrev pub invariant-loop-queue : goal.invariant-loop-queue
invariant-loop-queue l = (t : Trace) (h : Holding) (m : Made) (p : Past) → IsLawful t → IsGateOf t h l.self
    → SemaphoresStandFor t m l.sema → Agrees t h.events m p → (k : ℕ) → k < l.queue
    → starts (item_ready t p h.events) (get_or h.queues k []) ≡ false
