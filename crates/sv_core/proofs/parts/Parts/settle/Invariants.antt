use Rattle.sv_core.specs.Going.{IsGoing}
use Rattle.sv_core.proofs.parts.Parts.settle.Given as goal

abbrev pub invariant-loop : goal.invariant-loop
invariant-loop l = IsGoing l.trace l.history l.number l.self

abbrev pub decreases-loop : goal.decreases-loop
decreases-loop l = l.self.gate.total
