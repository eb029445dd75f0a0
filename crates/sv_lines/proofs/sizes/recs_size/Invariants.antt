use Rattle.std.proofs.Common.{◌≡◌, take, sum_by}
use Rattle.sv_model.specs.Size.{capped}
use Rattle.sv_rules.specs.Taken.{size_in}
use Rattle.sv_lines.proofs.sizes.recs_size.Given as goal

abbrev pub invariant-loop-rec : goal.invariant-loop-rec
invariant-loop-rec l = l.size ≡ capped (sum_by (size_in l.taken.trace) (take l.rec-index l.recs))
