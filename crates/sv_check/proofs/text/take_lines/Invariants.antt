use Rattle.std.proofs.Common.{map}
use Rattle.sv_check.proofs.LineByLine.{IsReadTo}
use Rattle.sv_check.proofs.text.take_lines.Given as goal

abbrev pub invariant-loop-index : goal.invariant-loop-index
invariant-loop-index l = IsReadTo (map (λ x. x.now) l.lines) l.index l.checker
