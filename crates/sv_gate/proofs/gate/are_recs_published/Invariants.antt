use Rattle.std.proofs.Common.{◌≡◌, take, true}
use Rattle.std.specs.BTreeSet.{contains}
use Rattle.std.specs.List.{list_all}
use Rattle.std.specs.Ordering.{nat_cmp}
use Rattle.sv_gate.proofs.gate.are_recs_published.Given as goal

abbrev pub invariant-loop-rec : goal.invariant-loop-rec
invariant-loop-rec l = list_all (contains nat_cmp l.published) (take l.rec-index l.recs) ≡ true
