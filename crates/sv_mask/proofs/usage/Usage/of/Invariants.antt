use Rattle.std.proofs.Common.{ℕ, ◌≡◌, ◌<◌, false}
use Rattle.sv_mask.specs.Usages.{stage_number, access_number, is_pair}
use Rattle.sv_mask.proofs.usage.Usage.of.Given as goal

abbrev pub invariant-loop-number : goal.invariant-loop-number
invariant-loop-number l = (k : ℕ) → k < l.number → is_pair (stage_number l.stage) (access_number l.access) k
    ≡ false
