use Rattle.std.proofs.Common.{◌≡◌, take}
use Rattle.std.specs.Prelude.{sum_by}
use Rattle.sv_model.specs.Size.{capped}
use Rattle.sv_space.specs.Counts.{pieces_on}
use Rattle.sv_space.proofs.space.Space.pieces.Given as goal

abbrev pub invariant-loop-line : goal.invariant-loop-line
invariant-loop-line l = l.all ≡ capped (sum_by pieces_on (take l.line-index l.self.lines.items))
