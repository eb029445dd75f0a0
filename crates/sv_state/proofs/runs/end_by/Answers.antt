use Rattle.std.proofs.Common.{arith}
use Rattle.std.proofs.lemmas.Bool.{leb-true}
use Rattle.sv_state.proofs.Turns.{by_at}
use Rattle.sv_state.proofs.runs.end_by.Goals as goal

pub returns-then-count-eq0 : goal.returns-then-count-eq0
returns-then-count-eq0 c = λ is d some. absurd (omega arith)

pub returns : goal.returns
returns c = λ is. by_at c.args.runs.now c.args.number _ (leb-true _ _ is)
