use Rattle.sv_space.specs.Patterns.{AreAsked}
use Rattle.sv_space.proofs.passing.ask.Given as goal

abbrev pub invariant-loop-number : goal.invariant-loop-number
invariant-loop-number l = AreAsked l.state l.patterns.items l.asked
