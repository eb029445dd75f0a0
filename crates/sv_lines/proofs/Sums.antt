-- Sums of sizes that stop at the greatest number.
use Rattle.std.proofs.Common.{◌≡◌, ℕ, ◌+◌, ◌-◌, ◌^◌, min, arith, ◌∙◌, ap}
use Rattle.std.specs.Prelude.{nat_lt}
use Rattle.std.proofs.lemmas.Bool.Decides.{nat_tests}
use Rattle.sv_model.specs.Size.{capped}

pub both_capped : (a b x y : ℕ) → a ≡ capped x → b ≡ capped y → min (a + b) (2 ^ 64 - 1) ≡ capped (x + y)
both_capped a b x y e h = omega (arith, e, h)

pub past_capped : (a b x y : ℕ) → a ≡ capped x → b ≡ capped y → nat_lt 4000000 (min (a + b) (2 ^ 64 - 1))
    ≡ nat_lt 4000000 (x + y)
past_capped a b x y e h = ap (nat_lt 4000000) (both_capped a b x y e h) ∙ small (x + y)
  where
    small : (n : ℕ) → nat_lt 4000000 (capped n) ≡ nat_lt 4000000 n
    small n = grind (arith, nat_tests)
