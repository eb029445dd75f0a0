-- What holds of the first so many items of a list.
use Rattle.std.proofs.Common.{ℕ, ◌≡◌, ◌<◌, ◌+◌, ◌⊎◌, ◌∷◌, ◌++◌, [], inl, inr, List, Contains, length}
use Rattle.std.proofs.Common.{get_or, arith, ◌∙◌, ap, subst, take}
use Rattle.std.proofs.lemmas.List.{take_more}
use Rattle.std.proofs.lemmas.List.Elements.{Contains-push_cases}

pub none_yet : {X : Type 0} (xs : List X) (P : X → Type 0) → (x : X) → Contains (take 0 xs) x → P x
none_yet xs P x on = absurd (let h = on.1 in omega arith)

-- the first so many, and one more
pub taken_cases : {X : Type 0} (xs : List X) (i : ℕ) (item : X) → i < length xs → get_or xs i item ≡ item
    → (x : X) → Contains (take (i + 1) xs) x → Contains (take i xs) x ⊎ (item ≡ x)
taken_cases {X} xs i item lt is x on = Contains-push_cases (take i xs) item x
    (subst (λ (ys : List X). Contains ys x) (take_more xs i item lt
    ∙ ap (λ (y : X). take i xs ++ y ∷ []) is) on)

-- they still have what they had, and so has one more
pub each_more : {X : Type 0} (xs : List X) (i : ℕ) (item : X) → i < length xs → get_or xs i item ≡ item
    → (P Q : X → Type 0) → ((x : X) → P x → Q x) → Q item → ((x : X) → Contains (take i xs) x → P x)
    → (x : X) → Contains (take (i + 1) xs) x → Q x
each_more xs i item lt is P Q go now was x on = elim (taken_cases xs i item lt is x on) [
  | inl before ↦ go x (was x before)
  | inr same ↦ subst Q same now
]
