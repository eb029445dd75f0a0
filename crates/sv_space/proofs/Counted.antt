-- Sums that stop at 2^64 - 1.
use Rattle.std.proofs.Common.{ℕ, ◌≡◌, ◌<◌, ◌≤◌, ◌+◌, ◌-◌, ◌^◌, List, get_or, length, min, take, arith, sym}
use Rattle.std.proofs.Common.{◌∙◌, ap}
use Rattle.std.specs.Prelude.{sum_by}
use Rattle.std.proofs.lemmas.List.{take_all}
use Rattle.std.proofs.lemmas.List.Sums.{sum_by_more}
use Rattle.sv_model.specs.Size.{capped}

capped_sum : (a b : ℕ) → min (capped a + b) (2 ^ 64 - 1) ≡ capped (a + b)
capped_sum a b = grind arith

-- one more of the list is added
pub one_more : {X : Type 0} (f : X → ℕ) (xs : List X) (i : ℕ) (d : X) (all more : ℕ) → i < length xs → all
    ≡ capped (sum_by f (take i xs)) → more ≡ f (get_or xs i d) → min (all + more) (2 ^ 64 - 1)
    ≡ capped (sum_by f (take (i + 1) xs))
one_more f xs i d all more lt is add =
    ap (λ (n : ℕ). min (n + more) (2 ^ 64 - 1)) is
    ∙ ap (λ (n : ℕ). min (capped (sum_by f (take i xs)) + n) (2 ^ 64 - 1)) add
    ∙ capped_sum (sum_by f (take i xs)) (f (get_or xs i d))
    ∙ ap capped (sym (sum_by_more f xs i d lt))

-- the whole list was added
pub whole : {X : Type 0} (f : X → ℕ) (xs : List X) (i all : ℕ) → length xs ≤ i → all
    ≡ capped (sum_by f (take i xs)) → all ≡ capped (sum_by f xs)
whole f xs i all le is = is ∙ ap (λ ys. capped (sum_by f ys)) (take_all i xs le)

-- nothing and nothing more
pub none_sum : (given more sum : ℕ) → sum ≡ capped (given + more) → given ≡ 0 → more ≡ 0 → sum ≡ 0
none_sum given more sum is none none_more = is ∙ ap (λ (n : ℕ). capped (n + more)) none
    ∙ ap (λ (n : ℕ). capped (0 + n)) none_more
