-- Look-ups in tables, and the first number that passes a test.
use Rattle.std.proofs.Common.{ℕ, zero, suc, ◌≡◌, ◌<◌, ◌≤◌, ◌+◌, Bool, true, false, List, map, length}
use Rattle.std.proofs.Common.{get_or, Some, None, arith, refl, sym, ap, ◌∙◌}
use Rattle.std.specs.List.{find, range_with_len}
use Rattle.std.proofs.lemmas.List.{get_or-map}

-- a number that is read through a table of values is the one in the table of their numbers
pub numbered : {A : Type 0} (number_of : A → ℕ) (values : List A) (numbers : List ℕ) → map number_of values
    ≡ numbers → (i : ℕ) (d : A) → i < length values → number_of (get_or values i d) ≡ get_or numbers i 0
numbered number_of values numbers same i d inside = sym (get_or-map number_of values i d 0 inside)
    ∙ ap (λ xs. get_or xs i 0) same

-- no number passes
pub find-none_below : (test : ℕ → Bool) (a n : ℕ) → ((k : ℕ) → a ≤ k → k < a + n → test k ≡ false)
    → find test (range_with_len a n) ≡ None
find-none_below test a zero none = refl
find-none_below test a (suc n) none =
    let here : test a ≡ false = none a (omega arith) (omega arith) in
    let rest = find-none_below test (a + 1) n (λ k low high. none k (omega arith) (omega arith)) in
    rw here rest

-- i is the first that passes
pub find-first_below : (test : ℕ → Bool) (a n j i : ℕ) → a + j ≡ i → j < n
    → ((k : ℕ) → a ≤ k → k < i → test k ≡ false) → test i ≡ true → find test (range_with_len a n) ≡ Some i
find-first_below test a zero j i is within none passes = absurd (omega arith)
find-first_below test a (suc n) zero i is within none passes =
    let same : a ≡ i = omega arith in
    let here : test a ≡ true = rw same passes in
    rw here (ap Some same)
find-first_below test a (suc n) (suc j) i is within none passes =
    let here : test a ≡ false = none a (omega arith) (omega arith) in
    rw here (find-first_below test (a + 1) n j i (omega arith) (omega arith)
    (λ k low high. none k (omega arith) high) passes)
