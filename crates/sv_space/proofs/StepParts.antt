-- A list in parts whose elements have the number of their part: how many of one number stand at one place.
use Rattle.std.proofs.Common.{ℕ, zero, suc, ◌≡◌, ◌<◌, ◌≤◌, ◌+◌, ◌==◌, inl, inr, Bool, true, false}
use Rattle.std.proofs.Common.{List, [], ◌∷◌, ◌++◌, Contains, length, filter, get_or, arith, refl, sym, ap}
use Rattle.std.proofs.Common.{◌∙◌, if◌then◌else◌, length-append}
use Rattle.std.specs.List.{All, flat_map}
use Rattle.std.proofs.lemmas.Bool.{cases_eq, ne_eqb}
use Rattle.std.proofs.lemmas.List.Elements.{All-head, All-tail, Contains-append_right}
use Rattle.std.proofs.lemmas.List.Elements.{filter-append}

cons_right : {X : Type 0} (x : X) (xs : List X) (y : X) → Contains xs y → Contains (x ∷ xs) y
cons_right x xs y c = Contains-append_right (x ∷ []) xs y c

cons_first : {X : Type 0} (x : X) (xs : List X) → Contains (x ∷ xs) x
cons_first x xs = (zero, omega arith, refl)

pub filter_few : {X : Type 0} (p : X → Bool) (xs : List X) → length (filter p xs) ≤ length xs
filter_few p [] = omega arith
filter_few p (x ∷ xs) = by_test (p x) (filter_few p xs)
  where
    by_test : (b : Bool) → length (filter p xs) ≤ length xs
        → length (if b then x ∷ filter p xs else filter p xs) ≤ suc (length xs)
    by_test true h = omega (arith, h)
    by_test false h = omega (arith, h)

-- where none passes both tests, nothing is left
none_left : {X : Type 0} (p q : X → Bool) (xs : List X) → ((x : X) → Contains xs x → p x ≡ false)
    → length (filter p (filter q xs)) ≤ 0
none_left p q [] none = omega arith
none_left {X} p q (x ∷ xs) none = by_test (q x) (none_left p q xs (λ y on. none y (cons_right x xs y on)))
  where
    without : (b : Bool) → p x ≡ b → b ≡ false → length (filter p (filter q xs)) ≤ 0
        → length (if b then x ∷ filter p (filter q xs) else filter p (filter q xs)) ≤ 0
    without true is e rest = absurd (let f : true ≡ false = e in cc)
    without false is e rest = rest

    by_test : (b : Bool) → length (filter p (filter q xs)) ≤ 0
        → length (filter p (if b then x ∷ filter q xs else filter q xs)) ≤ 0
    by_test true rest = without (p x) refl (none x (cons_first x xs)) rest
    by_test false rest = rest

module _ {S X : Type 0} (f : S → List X) (number : X → ℕ) (here : X → Bool) (most : ℕ) where
  -- the elements of the parts have their part's number, which count from n on
  abbrev pub AreFrom : ℕ → List S → Type 0
  AreFrom n parts = (k : ℕ) (d : S) → k < length parts → (x : X) → Contains (f (get_or parts k d)) x
      → number x ≡ n + k

  first_from : (n : ℕ) (s : S) (rest : List S) → AreFrom n (s ∷ rest) → (x : X) → Contains (f s) x → number x
      ≡ n
  first_from n s rest are x on = let e = are 0 s (omega arith) x on in omega (arith, e)

  rest_from : (n : ℕ) (s : S) (rest : List S) → AreFrom n (s ∷ rest) → AreFrom (n + 1) rest
  rest_from n s rest are k d lt x on = let e = are (suc k) d (omega (arith, lt)) x on in omega (arith, e)

  abbrev at : ℕ → List X → ℕ
  at step xs = length (filter (λ (x : X). number x == step) (filter here xs))

  at_both : (step : ℕ) (xs ys : List X) → at step (xs ++ ys) ≡ at step xs + at step ys
  at_both step xs ys =
      ap (λ (zs : List X). length (filter (λ (x : X). number x == step) zs)) (filter-append here xs ys)
      ∙ (ap length (filter-append (λ (x : X). number x == step) (filter here xs) (filter here ys))
      ∙ length-append (filter (λ (x : X). number x == step) (filter here xs))
      (filter (λ (x : X). number x == step) (filter here ys)))

  none_at : (step : ℕ) (xs : List X) → ((x : X) → Contains xs x → number x ≡ step → ⊥) → at step xs ≤ 0
  none_at step xs none = none_left (λ (x : X). number x == step) here xs
      (λ x on. ne_eqb (number x) step (none x on))

  none_later : (step n : ℕ) (parts : List S) → step < n → AreFrom n parts → at step (flat_map f parts) ≤ 0
  none_later step n [] lt are = omega arith
  none_later step n (s ∷ rest) lt are =
      let both = at_both step (f s) (flat_map f rest) in
      let first = none_at step (f s) (λ x on e. (let g = first_from n s rest are x on in
      omega (arith, e, g, lt))) in
      let later = none_later step (n + 1) rest (omega (arith, lt)) (rest_from n s rest are) in
      omega (arith, both, first, later)

  pub few_at : (step n : ℕ) (parts : List S) → AreFrom n parts
      → All (λ (s : S). length (filter here (f s)) ≤ most) parts → at step (flat_map f parts) ≤ most
  few_at step n [] are all = omega arith
  few_at step n (s ∷ rest) are all =
      let both = at_both step (f s) (flat_map f rest) in
      let few = All-head (λ (s : S). length (filter here (f s)) ≤ most) s rest all in
      let some = filter_few (λ (x : X). number x == step) (filter here (f s)) in
      elim (cases_eq n step) [
        | inl same ↦ (let later = none_later step (n + 1) rest (omega (arith, same))
            (rest_from n s rest are) in
            omega (arith, both, few, some, later))
        | inr other ↦ (let first = none_at step (f s) (λ x on e.
            other (sym (first_from n s rest are x on) ∙ e)) in
            let later = few_at step (n + 1) rest (rest_from n s rest are)
            (All-tail (λ (s : S). length (filter here (f s)) ≤ most) s rest all) in
            omega (arith, both, first, later))
      ]
