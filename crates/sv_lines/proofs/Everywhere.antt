-- What holds at each place of a list.
use Rattle.std.proofs.Common.{◌≡◌, ℕ, zero, suc, ◌<◌, List, [], ◌∷◌, Bool, true, false, ◌||◌, cond, Option}
use Rattle.std.proofs.Common.{None, Some, refl, ◌∙◌, ap, arith, length, map, set}
use Rattle.std.specs.Prelude.{is_none, is_some, option_map, slice_index_or}
use Rattle.std.specs.List.{find, list_any}

-- a list of values in which one place changes
pub map_one : {A B : Type 0} (f g : A → B) (xs : List A) (p : ℕ) (d : A) → p < length xs
    → ((k : ℕ) → k < length xs → (k ≡ p → ⊥) → f (slice_index_or xs k d) ≡ g (slice_index_or xs k d))
    → set (map f xs) p (g (slice_index_or xs p d)) ≡ map g xs
map_one f g [] p d lt same = absurd (omega (arith, lt))
map_one f g (x ∷ xs) zero d lt same = ap (λ ys. g x ∷ ys)
    (map_rest f g xs d (λ k within. same (suc k) (omega (arith, within)) (λ e. omega (arith, e))))
  where
    map_rest : {A B : Type 0} (f g : A → B) (xs : List A) (d : A)
        → ((k : ℕ) → k < length xs → f (slice_index_or xs k d) ≡ g (slice_index_or xs k d)) → map f xs
        ≡ map g xs
    map_rest f g [] d same = refl
    map_rest f g (x ∷ xs) d same = ap (λ y. y ∷ map f xs) (same zero (omega arith))
        ∙ ap (λ ys. g x ∷ ys) (map_rest f g xs d (λ k within. same (suc k) (omega (arith, within))))
map_one f g (x ∷ xs) (suc p) d lt same =
    ap (λ y. y ∷ set (map f xs) p (g (slice_index_or xs p d)))
    (same zero (omega arith) (λ e. omega (arith, e)))
    ∙ ap (λ ys. g x ∷ ys) (map_one f g xs p d (omega (arith, lt))
    (λ k within apart. same (suc k) (omega (arith, within)) (λ e. apart (omega (arith, e)))))

pub any_none : {A : Type 0} (q : A → Bool) (xs : List A) (d : A)
    → ((k : ℕ) → k < length xs → q (slice_index_or xs k d) ≡ false) → list_any q xs ≡ false
any_none q [] d h = refl
any_none q (x ∷ xs) d h = ap (λ b. b || list_any q xs) (h zero (omega arith))
    ∙ any_none q xs d (λ k within. h (suc k) (omega (arith, within)))

pub any_same : {A : Type 0} (p q : A → Bool) (xs : List A) (d : A)
    → ((k : ℕ) → k < length xs → p (slice_index_or xs k d) ≡ q (slice_index_or xs k d)) → list_any p xs
    ≡ list_any q xs
any_same p q [] d h = refl
any_same p q (x ∷ xs) d h = ap (λ b. b || list_any p xs) (h zero (omega arith))
    ∙ ap (λ b. q x || b) (any_same p q xs d (λ k within. h (suc k) (omega (arith, within))))

pub some_of_new : {A : Type 0} (o : Option A) → is_none o ≡ false → (y : A) × (o ≡ Some y)
some_of_new None e = absurd (let h : true ≡ false = e in cc)
some_of_new (Some y) e = (y, refl)

-- the places of a list of values
pub at_map : {A B : Type 0} (f : A → B) (xs : List A) (k : ℕ) (d : B) (e : A) → k < length xs
    → slice_index_or (map f xs) k d ≡ f (slice_index_or xs k e)
at_map f [] k d e lt = absurd (omega (arith, lt))
at_map f (x ∷ xs) zero d e lt = refl
at_map f (x ∷ xs) (suc k) d e lt = at_map f xs k d e (omega (arith, lt))

pub any_map : {A B : Type 0} (q : B → Bool) (p : A → Bool) (f : A → B) → ((y : A) → q (f y) ≡ p y)
    → (xs : List A) → list_any q (map f xs) ≡ list_any p xs
any_map q p f same [] = refl
any_map q p f same (x ∷ xs) = ap (λ b. b || list_any q (map f xs)) (same x)
    ∙ ap (λ b. p x || b) (any_map q p f same xs)

found_map : {A B : Type 0} (f : A → B) (b : Bool) (x : A) (o : Option A)
    → cond b (Some (f x)) (option_map f o) ≡ option_map f (cond b (Some x) o)
found_map f true x o = refl
found_map f false x o = refl

pub find_map : {A B : Type 0} (q : B → Bool) (p : A → Bool) (f : A → B) → ((y : A) → q (f y) ≡ p y)
    → (xs : List A) → find q (map f xs) ≡ option_map f (find p xs)
find_map q p f same [] = refl
find_map q p f same (x ∷ xs) =
    ap (λ b. cond b (Some (f x)) (find q (map f xs))) (same x)
    ∙ ap (λ o. cond (p x) (Some (f x)) o) (find_map q p f same xs) ∙ found_map f (p x) x (find p xs)

pub map_map : {A B C : Type 0} (g : B → C) (f : A → B) (xs : List A) → map g (map f xs)
    ≡ map (λ x. g (f x)) xs
map_map g f [] = refl
map_map g f (x ∷ xs) = ap (λ ys. g (f x) ∷ ys) (map_map g f xs)

pub map_none : {A B : Type 0} (f : A → B) (o : Option A) → option_map f o ≡ None → o ≡ None
map_none f None e = refl
map_none f (Some x) e = absurd (let h : Some (f x) ≡ None = e in cc)

pub map_some : {A B : Type 0} (f : A → B) (o : Option A) → is_some (option_map f o) ≡ is_some o
map_some f None = refl
map_some f (Some x) = refl

pub map_same : {A B : Type 0} (f g : A → B) (xs : List A) (d : A)
    → ((k : ℕ) → k < length xs → f (slice_index_or xs k d) ≡ g (slice_index_or xs k d)) → map f xs
    ≡ map g xs
map_same f g [] d same = refl
map_same f g (x ∷ xs) d same = ap (λ y. y ∷ map f xs) (same zero (omega arith))
    ∙ ap (λ ys. g x ∷ ys) (map_same f g xs d (λ k within. same (suc k) (omega (arith, within))))
