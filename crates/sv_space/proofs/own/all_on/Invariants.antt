use Rattle.std.proofs.Common.{ℕ, ◌<◌, length, get_or, IsTrue}
use Rattle.sv_model.specs.Cells as cells
use Rattle.sv_model.specs.declared.work.Access.{Access}
use Rattle.sv_space.proofs.own.all_on.Given as goal

abbrev pub invariant-loop-access : goal.invariant-loop-access
invariant-loop-access l = (k : ℕ) (d : Access) → k < length l.accesses → k < l.access-index
    → IsTrue (cells.covers (get_or l.accesses k d).area l.cell)
