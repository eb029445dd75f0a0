use Rattle.std.proofs.Common.{map}
use Rattle.sv_name.proofs.TableLemmas.{IsPassed}
use Rattle.sv_name.proofs.table.look_up.Given as goal

abbrev pub invariant-loop-row : goal.invariant-loop-row
invariant-loop-row g l = IsPassed (map (λ row. (row.0.now, row.1)) l.rows) l.text l.row-index
