-- The first place that passes.
use Rattle.std.proofs.Common.{ℕ, ◌≡◌, ◌<◌, ◌∙◌, List, Bool, true, false, Some, None, length, get_or, cond}
use Rattle.std.proofs.Common.{ap, arith, ltb}
use Rattle.std.specs.List.{position, position_or_len}
use Rattle.std.proofs.lemmas.Bool.{cond-true, cond-false, lt-ltb, le-ltb}
use Rattle.std.proofs.lemmas.List.Sums.{position_or_len_is}

place_at : (n i : ℕ) → i < n → cond (ltb i n) (Some i) None ≡ Some i
place_at n i l = cond-true (ltb i n) (Some i) None (lt-ltb i n l)

no_place : (n : ℕ) → cond (ltb n n) (Some n) None ≡ None
no_place n = cond-false (ltb n n) (Some n) None (le-ltb n n (omega arith))

pub first_is : {X : Type 0} (p : X → Bool) (xs : List X) (i : ℕ) (d : X) → i < length xs
    → ((k : ℕ) → k < i → p (get_or xs k d) ≡ false) → p (get_or xs i d) ≡ true → position p xs ≡ Some i
first_is p xs i d l below here =
    let e : position_or_len p xs ≡ i = position_or_len_is p xs i d (omega arith) below (λ _. here) in
    ap (λ (n : ℕ). cond (ltb n (length xs)) (Some n) None) e ∙ place_at (length xs) i l

pub none_is : {X : Type 0} (p : X → Bool) (xs : List X) (d : X)
    → ((k : ℕ) → k < length xs → p (get_or xs k d) ≡ false) → position p xs ≡ None
none_is p xs d below =
    let e : position_or_len p xs ≡ length xs = position_or_len_is p xs (length xs) d (omega arith) below
    (λ l. absurd (omega arith)) in
    ap (λ (n : ℕ). cond (ltb n (length xs)) (Some n) None) e ∙ no_place (length xs)
