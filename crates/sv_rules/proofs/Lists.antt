-- Lists: the elements that a function gives, what is found, scripts with one more event, sums that agree.
use Rattle.std.proofs.Common.{◌≡◌, ℕ, zero, suc, ◌+◌, ◌<◌, List, [], ◌∷◌, ◌++◌, Bool, true, false, ◌||◌}
use Rattle.std.proofs.Common.{eqb, cond, Option, None, Some, refl, sym, ◌∙◌, ap, subst, arith, length, map}
use Rattle.std.proofs.Common.{sum_by, is_some, option_map, filter_map, find, slice_index_or, All, AllPairs}
use Rattle.std.proofs.Common.{Contains, inl, inr, eq-eqb, get_or-set_same, get_or-set_other, ◌==◌}
use Rattle.std.specs.List.{cons_option, list_any}
use Rattle.std.proofs.lemmas.Bool.{cases_eq}
use Rattle.std.proofs.lemmas.Bool.Decides.{eqb_tells}
use Rattle.std.proofs.lemmas.List.{get_or-map, length-map}
use Rattle.std.proofs.lemmas.List.Elements.{All-nil, All-cons, All-head, All-tail}
use Rattle.std.proofs.lemmas.List.Sums.{sum_by-cons, sum_by-set}
use Rattle.std.proofs.lemmas.Option.{same_Some, none-some}
use Rattle.sv_model.specs.Lawful.{Differ}
use Rattle.sv_rules.specs.Trace.{with_event}

-- what holds of a value where there is one
abbrev pub Holds : {Y : Type 0} → (Y → Type 0) → Option Y → Type 0
Holds Q None = Unit {0}
Holds Q (Some y) = Q y

-- Elements that a function gives.

with_one : {Y : Type 0} (Q : Y → Type 0) (o : Option Y) (ys : List Y) → Holds Q o → All Q ys
    → All Q (cons_option o ys)
with_one Q None ys a all = all
with_one Q (Some y) ys a all = All-cons Q y ys a all

pub given_all : {X Y : Type 0} (h : X → Option Y) (Q : Y → Type 0) (xs : List X)
    → All (λ x. Holds Q (h x)) xs → All Q (filter_map h xs)
given_all h Q [] all = All-nil Q
given_all h Q (x ∷ xs) all = with_one Q (h x) (filter_map h xs) (All-head (λ y. Holds Q (h y)) x xs all)
    (given_all h Q xs (All-tail (λ y. Holds Q (h y)) x xs all))

its_value : {Y : Type 0} (Q : Y → Type 0) (o : Option Y) (ys : List Y) → All Q (cons_option o ys) → Holds Q o
its_value Q None ys all = tt
its_value Q (Some y) ys all = All-head Q y ys all

its_rest : {Y : Type 0} (Q : Y → Type 0) (o : Option Y) (ys : List Y) → All Q (cons_option o ys) → All Q ys
its_rest Q None ys all = all
its_rest Q (Some y) ys all = All-tail Q y ys all

pub givers_all : {X Y : Type 0} (h : X → Option Y) (Q : Y → Type 0) (xs : List X) → All Q (filter_map h xs)
    → All (λ x. Holds Q (h x)) xs
givers_all h Q [] all = All-nil (λ x. Holds Q (h x))
givers_all h Q (x ∷ xs) all = All-cons (λ y. Holds Q (h y)) x xs (its_value Q (h x) (filter_map h xs) all)
    (givers_all h Q xs (its_rest Q (h x) (filter_map h xs) all))

pub given_same : {X Y : Type 0} (f g : X → Option Y) (xs : List X) → All (λ x. f x ≡ g x) xs
    → filter_map f xs ≡ filter_map g xs
given_same f g [] same = refl
given_same f g (x ∷ xs) same =
    ap (λ o. cons_option o (filter_map f xs)) (All-head (λ y. f y ≡ g y) x xs same)
    ∙ ap (cons_option (g x)) (given_same f g xs (All-tail (λ y. f y ≡ g y) x xs same))

-- where a test passes some element, and that element gives y, the list gives y
in_longer : {Y : Type 0} (o : Option Y) (ys : List Y) (y : Y) → Contains ys y → Contains (cons_option o ys) y
in_longer None ys y at = at
in_longer (Some x) ys y at = let lt = at.1 in (suc at.0, omega (arith, lt), at.2)

in_front : {Y : Type 0} (o : Option Y) (ys : List Y) (y : Y) → o ≡ Some y → Contains (cons_option o ys) y
in_front None ys y e = absurd (none-some y e)
in_front (Some x) ys y e = (zero, omega arith, same_Some x y e)

pub either : (b c : Bool) (P : Type 0) → (b || c) ≡ true → (b ≡ true → P) → (c ≡ true → P) → P
either true c P e f g = f refl
either false c P e f g = g e

pub gives_it : {X Y : Type 0} (test : X → Bool) (h : X → Option Y) (y : Y) (xs : List X)
    → ((x : X) → test x ≡ true → h x ≡ Some y) → list_any test xs ≡ true → Contains (filter_map h xs) y
gives_it test h y [] gives any = absurd (let e : false ≡ true = any in cc)
gives_it test h y (x ∷ xs) gives any =
    either (test x) (list_any test xs) (Contains (cons_option (h x) (filter_map h xs)) y) any
    (λ here. in_front (h x) (filter_map h xs) y (gives x here))
    (λ later. in_longer (h x) (filter_map h xs) y (gives_it test h y xs gives later))

-- What is found.

chosen : {X : Type 0} (P : X → Type 0) (b : Bool) (x y : X) (rest : Option X) → P x → (rest ≡ Some y → P y)
    → cond b (Some x) rest ≡ Some y → P y
chosen P true x y rest here later e = subst P (same_Some x y e) here
chosen P false x y rest here later e = later e

pub found_is : {X : Type 0} (P : X → Type 0) (test : X → Bool) (xs : List X) (y : X) → All P xs
    → find test xs ≡ Some y → P y
found_is P test [] y all e = absurd (none-some y e)
found_is P test (x ∷ xs) y all e = chosen P (test x) x y (find test xs) (All-head P x xs all)
    (found_is P test xs y (All-tail P x xs all)) e

passes : {X : Type 0} (test : X → Bool) (b : Bool) (x y : X) (rest : Option X) → (b ≡ true → test x ≡ true)
    → (rest ≡ Some y → test y ≡ true) → cond b (Some x) rest ≡ Some y → test y ≡ true
passes test true x y rest here later e = subst (λ z. test z ≡ true) (same_Some x y e) (here refl)
passes test false x y rest here later e = later e

pub found_passes : {X : Type 0} (test : X → Bool) (xs : List X) (y : X) → find test xs ≡ Some y → test y
    ≡ true
found_passes test [] y e = absurd (none-some y e)
found_passes test (x ∷ xs) y e = passes test (test x) x y (find test xs) (λ h. h) (found_passes test xs y) e

mapped : {X : Type 0} (f : X → X) (b : Bool) (x : X) (new old : Option X) → new ≡ option_map f old
    → cond b (Some (f x)) new ≡ option_map f (cond b (Some x) old)
mapped f true x new old e = refl
mapped f false x new old e = e

pub found_mapped : {X : Type 0} (test : X → Bool) (f : X → X) → ((x : X) → test (f x) ≡ test x)
    → (xs : List X) → find test (map f xs) ≡ option_map f (find test xs)
found_mapped test f same [] = refl
found_mapped test f same (x ∷ xs) =
    ap (λ b. cond b (Some (f x)) (find test (map f xs))) (same x)
    ∙ mapped f (test x) x (find test (map f xs)) (find test xs) (found_mapped test f same xs)

still_some : {X : Type 0} (b : Bool) (x : X) (rest : Option X) → is_some rest ≡ true
    → is_some (cond b (Some x) rest) ≡ true
still_some true x rest e = refl
still_some false x rest e = e

-- the first element of a number is found, where one has it
pub some_found : {X : Type 0} (number : X → ℕ) (xs : List X) (n k d : ℕ) → k < length (map number xs)
    → slice_index_or (map number xs) k d ≡ n → is_some (find (λ (x : X). number x == n) xs) ≡ true
some_found number [] n k d lt e = absurd (omega (arith, lt))
some_found number (x ∷ xs) n zero d lt e = ap (λ b. is_some
    (cond b (Some x) (find (λ y. number y == n) xs))) (eq-eqb (number x) n e)
some_found number (x ∷ xs) n (suc k) d lt e = still_some (number x == n) x (find (λ y. number y == n) xs)
    (some_found number xs n k d (omega (arith, lt)) e)

pub later_pairs : {X : Type 0} (R : X → X → Type 0) (x : X) (xs : List X) → AllPairs R (x ∷ xs)
    → AllPairs R xs
later_pairs R x xs h i j d lt within = h (suc i) (suc j) d (omega (arith, lt)) (omega (arith, within))

pub unequal : (m n : ℕ) → Differ m n → eqb m n ≡ false
unequal m n apart = elim (eqb_tells m n) [ inl same ↦ absurd (apart same.1) | inr other ↦ other.0 ]

mapped_length : {X : Type 0} (number : X → ℕ) (x : X) (xs : List X) (k : ℕ) → k < length xs → suc k
    < length (number x ∷ map number xs)
mapped_length number x xs k lt = let long = length-map xs number in omega (arith, long, lt)

-- where numbers stand once, each element is found by its own number
pub found_here : {X : Type 0} (number : X → ℕ) (xs : List X) (k : ℕ) (d : X)
    → AllPairs Differ (map number xs) → k < length xs
    → find (λ (x : X). number x == number (slice_index_or xs k d)) xs ≡ Some (slice_index_or xs k d)
found_here number [] k d once lt = absurd (omega (arith, lt))
found_here number (x ∷ xs) zero d once lt = ap (λ b. cond b (Some x) (find (λ y. number y == number x) xs))
    (eq-eqb (number x) (number x) refl)
found_here number (x ∷ xs) (suc k) d once lt =
    ap (λ b. cond b (Some x) (find (λ y. number y == number (slice_index_or xs k d)) xs))
    (unequal (number x) (number (slice_index_or xs k d)) apart)
    ∙ found_here number xs k d (later_pairs Differ (number x) (map number xs) once) (omega (arith, lt))
  where
    at : slice_index_or (map number xs) k 0 ≡ number (slice_index_or xs k d)
    at = get_or-map number xs k d 0 (omega (arith, lt))

    apart : Differ (number x) (number (slice_index_or xs k d))
    apart = subst (λ n. Differ (number x) n) at (once 0 (suc k) 0 (omega arith)
        (mapped_length number x xs k (omega (arith, lt))))

-- Scripts, of which one has one more event.

pub each_script : {X : Type 0} (P : ℕ → List X → Type 0) (scripts : List (List X)) (actor : ℕ) (x : X)
    → actor < length scripts
    → ((k : ℕ) → (k ≡ actor → ⊥) → P k (slice_index_or scripts k []))
    → P actor (slice_index_or scripts actor [] ++ x ∷ [])
    → (k : ℕ) → P k (slice_index_or (with_event scripts actor x) k [])
each_script P scripts actor x lt others one k = elim (cases_eq k actor) [
  | inl same ↦ subst (λ n. P n (slice_index_or (with_event scripts actor x) n [])) (sym same)
      (subst (P actor) (sym (get_or-set_same scripts actor (slice_index_or scripts actor [] ++ x ∷ [])
      [] lt)) one)
  | inr apart ↦ subst (P k) (sym (get_or-set_other scripts actor k
      (slice_index_or scripts actor [] ++ x ∷ []) [] apart)) (others k apart)
]

pub script_sum : {X : Type 0} (f : List X → ℕ) (scripts : List (List X)) (actor : ℕ) (x : X) (more : ℕ)
    → actor < length scripts
    → f (slice_index_or scripts actor [] ++ x ∷ []) ≡ f (slice_index_or scripts actor []) + more
    → sum_by f (with_event scripts actor x) ≡ sum_by f scripts + more
script_sum f scripts actor x more lt longer =
    let whole = sum_by-set f scripts actor (slice_index_or scripts actor [] ++ x ∷ []) [] lt in
    omega (arith, whole, longer)

-- Sums.

pub sums_same : {X : Type 0} (f g : X → ℕ) (xs : List X) → All (λ x. f x ≡ g x) xs → sum_by f xs ≡ sum_by g xs
sums_same f g [] same = refl
sums_same f g (x ∷ xs) same =
    sum_by-cons f x xs
    ∙ ap (λ n. n + sum_by f xs) (All-head (λ y. f y ≡ g y) x xs same)
    ∙ ap (λ n. g x + n) (sums_same f g xs (All-tail (λ y. f y ≡ g y) x xs same))
    ∙ sym (sum_by-cons g x xs)
