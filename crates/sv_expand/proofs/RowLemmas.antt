-- Tests over the rows of a table.
use Rattle.std.proofs.Common.{ℕ, zero, suc, ◌≡◌, ◌<◌, ◌≤◌, ◌+◌, ◌/◌, ◌^◌, Bool, true, false, not, ◌&&◌}
use Rattle.std.proofs.Common.{◌||◌, nat_lt, nat_eq, ◌⊎◌, inl, inr, List, [], ◌∷◌, ◌++◌, get_or, map, arith}
use Rattle.std.proofs.Common.{add-one, refl, sym, ap, ◌∙◌}
use Rattle.std.specs.Int.RustNames.{bit_and}
use Rattle.std.specs.List.{list_any, list_all, range_with_len}
use Rattle.std.proofs.lemmas.Bool.{cases_Bool, cases_eq, eqb-true, eq-eqb, ne_eqb, and_parts, and_from}
use Rattle.std.proofs.lemmas.Bool.{both_ways, cases_lt}
use Rattle.std.proofs.lemmas.List.Folds.{list_any-append, list_any_at}
use Rattle.std.proofs.lemmas.List.FromFn.{get_or-map-range_with_len, get_or-range_with_len}
use Rattle.std.proofs.lemmas.List.FromFn.{length-range_with_len}
use Rattle.std.proofs.lemmas.Nat.Bits.{shr_and_one, bit_at_above}
use Rattle.sv_mask.specs.Sets.{has}
use Rattle.sv_mask.specs.Scopes.{number_where}
use Rattle.sv_expand.proofs.BitLemmas.{has-number_where, has-and, same_from_has}

pub or-false : (b : Bool) → (b || false) ≡ b
or-false true = refl
or-false false = refl

pub and-false : (b : Bool) → (b && false) ≡ false
and-false true = refl
and-false false = refl

pub and-true : (b : Bool) → (b && true) ≡ b
and-true true = refl
and-true false = refl

range-suc : (a n j : ℕ) → a + n ≡ j → range_with_len a (suc n) ≡ range_with_len a n ++ j ∷ []
range-suc a zero j is = let e : a ≡ j = omega arith in ap (λ x. x ∷ []) e
range-suc a (suc n) j is = ap (λ xs. a ∷ xs) (range-suc (a + 1) n j (omega arith))

-- some number up to n passes
pub any-more : (test : ℕ → Bool) (n : ℕ) → list_any test (range_with_len 0 (n + 1))
    ≡ (list_any test (range_with_len 0 n) || test n)
any-more test n =
    ap (λ m. list_any test (range_with_len 0 m)) (add-one n)
    ∙ ap (list_any test) (range-suc 0 n n (omega arith))
    ∙ list_any-append test (range_with_len 0 n) (n ∷ [])
    ∙ ap (λ b. list_any test (range_with_len 0 n) || b) (or-false (test n))

-- tests that agree below n
pub any-same : (p q : ℕ → Bool) (a n : ℕ) → ((j : ℕ) → j < a + n → p j ≡ q j)
    → list_any p (range_with_len a n) ≡ list_any q (range_with_len a n)
any-same p q a zero same = refl
any-same p q a (suc n) same =
    let here : p a ≡ q a = same a (omega arith) in
    let rest = any-same p q (a + 1) n (λ j below. same j (omega arith)) in
    rw here (ap (λ b. q a || b) rest)

pub any-never : (p : ℕ → Bool) (xs : List ℕ) → ((j : ℕ) → p j ≡ false) → list_any p xs ≡ false
any-never p [] never = refl
any-never p (x ∷ xs) never = let here = never x in rw here (any-never p xs never)

-- a part of the test that does not depend on the number
pub any-factor : (c : Bool) (p q : ℕ → Bool) (xs : List ℕ) → list_any (λ j. p j && (c && q j)) xs
    ≡ (c && list_any (λ j. p j && q j) xs)
any-factor true p q xs = refl
any-factor false p q xs = any-never (λ j. p j && false) xs (λ j. and-false (p j))

same_number : (p : ℕ → Bool) (m j : ℕ) → p m ≡ false → (nat_eq m j ≡ true) ⊎ (nat_eq m j ≡ false)
    → (p j && nat_eq m j) ≡ false
same_number p m j none (inl e) = let at : p j ≡ false = ap p (sym (eqb-true m j e)) ∙ none in rw at refl
same_number p m j none (inr e) = rw e (and-false (p j))

single : (p : ℕ → Bool) (m n : ℕ) → m < n → (p m ≡ true) ⊎ (p m ≡ false)
    → list_any (λ j. p j && nat_eq m j) (range_with_len 0 n) ≡ p m
single p m n inside (inl passes) =
    let place : get_or (range_with_len 0 n) m 0 ≡ m = get_or-range_with_len 0 n m 0 inside ∙ omega arith in
    let here : nat_eq m m ≡ true = eq-eqb m m refl in
    list_any_at (λ j. p j && nat_eq m j) (range_with_len 0 n) m 0 (rw (length-range_with_len 0 n) inside)
    (rw place (rw passes here)) ∙ sym passes
single p m n inside (inr fails) =
    any-never (λ j. p j && nat_eq m j) (range_with_len 0 n)
    (λ j. same_number p m j fails (cases_Bool (nat_eq m j))) ∙ sym fails

-- the test of one number
pub any-single : (p : ℕ → Bool) (m n : ℕ) → m < n → list_any (λ j. p j && nat_eq m j) (range_with_len 0 n)
    ≡ p m
any-single p m n inside = single p m n inside (cases_Bool (p m))

-- the members of a union of rows, each of which is the set of the numbers below w that pass a test
pub in_rows-where : (set w n : ℕ) (rows : List ℕ) (test : ℕ → ℕ → Bool) (k : ℕ) → rows
    ≡ map (λ j. number_where w (test j)) (range_with_len 0 n)
    → list_any (λ j. has set j && has (get_or rows j 0) k) (range_with_len 0 n)
    ≡ (nat_lt k w && list_any (λ j. has set j && test j k) (range_with_len 0 n))
in_rows-where set w n rows test k is =
    any-same (λ j. has set j && has (get_or rows j 0) k) (λ j. has set j && (nat_lt k w && test j k)) 0 n
    (λ j below. ap (λ b. has set j && b)
    (ap (λ r. has r k) (ap (λ xs. get_or xs j 0) is
    ∙ get_or-map-range_with_len (λ i. number_where w (test i)) 0 n j j 0 (omega arith) (omega arith))
    ∙ has-number_where w (test j) k))
    ∙ any-factor (nat_lt k w) (has set) (λ j. test j k) (range_with_len 0 n)

-- the union of one more row
pub union-more : (set : ℕ) (rows : List ℕ) (i k : ℕ) (before : Bool) → before
    ≡ list_any (λ j. has set j && has (get_or rows j 0) k) (range_with_len 0 i)
    → (before || (nat_eq (bit_and (set / 2 ^ i) 1) 1 && has (get_or rows i 0) k))
    ≡ list_any (λ j. has set j && has (get_or rows j 0) k) (range_with_len 0 (i + 1))
union-more set rows i k before is =
    ap (λ b. before || (nat_eq b 1 && has (get_or rows i 0) k)) (shr_and_one set i)
    ∙ ap (λ b. b || (has set i && has (get_or rows i 0) k)) is
    ∙ sym (any-more (λ j. has set j && has (get_or rows j 0) k) i)

-- a test that is either of two
spread : (p a b x y : Bool) → ((p && (a || b)) || (x || y)) ≡ (((p && a) || x) || ((p && b) || y))
spread false a b x y = refl
spread true true b x y = refl
spread true false true true y = refl
spread true false true false y = refl
spread true false false x y = refl

any-either : (p a b : ℕ → Bool) (xs : List ℕ) → list_any (λ j. p j && (a j || b j)) xs
    ≡ (list_any (λ j. p j && a j) xs || list_any (λ j. p j && b j) xs)
any-either p a b [] = refl
any-either p a b (x ∷ xs) =
    ap (λ rest. (p x && (a x || b x)) || rest) (any-either p a b xs)
    ∙ spread (p x) (a x) (b x) (list_any (λ j. p j && a j) xs) (list_any (λ j. p j && b j) xs)

moved : (p q e : Bool) → (p && (e && q)) ≡ ((p && q) && e)
moved false q e = refl
moved true q true = sym (and-true q)
moved true q false = sym (and-false q)

-- some j that passes p has some u with s u = j that passes q, where some u passes q and its s u passes p
pub any-swap : (p : ℕ → Bool) (s : ℕ → ℕ) (q : ℕ → Bool) (n : ℕ) → ((u : ℕ) → s u < n) → (us : List ℕ)
    → list_any (λ j. p j && list_any (λ u. nat_eq (s u) j && q u) us) (range_with_len 0 n)
    ≡ list_any (λ u. p (s u) && q u) us
any-swap p s q n small [] = any-never (λ j. p j && false) (range_with_len 0 n) (λ j. and-false (p j))
any-swap p s q n small (u ∷ us) =
    any-either p (λ j. nat_eq (s u) j && q u) (λ j. list_any (λ v. nat_eq (s v) j && q v) us)
    (range_with_len 0 n)
    ∙ ap (λ b. list_any (λ j. p j && (nat_eq (s u) j && q u)) (range_with_len 0 n) || b)
    (any-swap p s q n small us)
    ∙ ap (λ b. b || list_any (λ v. p (s v) && q v) us)
    (any-same (λ j. p j && (nat_eq (s u) j && q u)) (λ j. (p j && q u) && nat_eq (s u) j) 0 n
    (λ j below. moved (p j) (q u) (nat_eq (s u) j))
    ∙ any-single (λ j. p j && q u) (s u) n (small u))

first_or_later : (test : ℕ → Bool) (a j : ℕ) → test a ≡ true → ((a ≡ j → ⊥) → test j ≡ true) → (a ≡ j)
    ⊎ (a ≡ j → ⊥) → test j ≡ true
first_or_later test a j here later (inl e) = ap test (sym e) ∙ here
first_or_later test a j here later (inr other) = later other

-- each number of a range passes
all-at : (test : ℕ → Bool) (a n j : ℕ) → a ≤ j → j < a + n → list_all test (range_with_len a n) ≡ true
    → test j ≡ true
all-at test a zero j low high all = absurd (omega arith)
all-at test a (suc n) j low high all =
    let both = and_parts (test a) (list_all test (range_with_len (a + 1) n)) all in
    first_or_later test a j both.0 (λ other. all-at test (a + 1) n j (omega arith) (omega arith) both.1)
    (cases_eq a j)

all-from : (test : ℕ → Bool) (a n : ℕ) → ((j : ℕ) → j < a + n → test j ≡ true)
    → list_all test (range_with_len a n) ≡ true
all-from test a zero each = refl
all-from test a (suc n) each =
    and_from (test a) (list_all test (range_with_len (a + 1) n)) (each a (omega arith))
    (all-from test (a + 1) n (λ j below. each j (omega arith)))

decided_by : (test : ℕ → Bool) (n x y : ℕ) → (((k : ℕ) → k < n → test k ≡ true) → (k : ℕ) → has x k
    ≡ has y k) → (x ≡ y → (k : ℕ) → k < n → test k ≡ true) → (list_all test (range_with_len 0 n) ≡ true)
    ⊎ (list_all test (range_with_len 0 n) ≡ false) → nat_eq x y ≡ list_all test (range_with_len 0 n)
decided_by test n x y to from (inl all) =
    eq-eqb x y (same_from_has x y (to (λ k below. all-at test 0 n k (omega arith) (omega arith) all)))
    ∙ sym all
decided_by test n x y to from (inr some) =
    ne_eqb x y (λ same. both_ways _ some (all-from test 0 n (λ j below. from same j (omega arith))))
    ∙ sym some

-- two sets are the same exactly where each number below n passes a test
pub decided : (test : ℕ → Bool) (n x y : ℕ) → (((k : ℕ) → k < n → test k ≡ true) → (k : ℕ) → has x k
    ≡ has y k) → (x ≡ y → (k : ℕ) → k < n → test k ≡ true) → nat_eq x y ≡ list_all test (range_with_len 0 n)
decided test n x y to from = decided_by test n x y to from (cases_Bool (list_all test (range_with_len 0 n)))

holds_when : (named usage : Bool) → (not named || usage) ≡ true → (usage && named) ≡ named
holds_when false usage has_it = and-false usage
holds_when true usage has_it = rw has_it refl

held : (named usage : Bool) → (usage && named) ≡ named → (not named || usage) ≡ true
held false usage same = refl
held true true same = refl
held true false same = same

above : (x n k : ℕ) → x < 2 ^ n → n ≤ k → has x k ≡ false
above x n k small high = rw (bit_at_above x n k small high) refl

holds_at : (set other n k : ℕ) → other < 2 ^ n → ((j : ℕ) → j < n → (not (has other j) || has set j) ≡ true)
    → (k < n) ⊎ (n ≤ k) → (has set k && has other k) ≡ has other k
holds_at set other n k small each (inl inside) = holds_when (has other k) (has set k) (each k inside)
holds_at set other n k small each (inr outside) = rw (above other n k small outside) (and-false (has set k))

-- the intersection with the other set is the other set exactly where its members below n are in the set
pub all-holds : (set other n : ℕ) → other < 2 ^ n → nat_eq (bit_and set other) other
    ≡ list_all (λ k. not (has other k) || has set k) (range_with_len 0 n)
all-holds set other n small =
    decided (λ k. not (has other k) || has set k) n (bit_and set other) other
    (λ each k. has-and set other k ∙ holds_at set other n k small each (cases_lt k n))
    (λ same k inside. held (has other k) (has set k) (sym (has-and set other k) ∙ ap (λ s. has s k) same))

-- tests that agree on a range
pub all-same : (p q : ℕ → Bool) (a n : ℕ) → ((j : ℕ) → j < a + n → p j ≡ q j)
    → list_all p (range_with_len a n) ≡ list_all q (range_with_len a n)
all-same p q a zero same = refl
all-same p q a (suc n) same =
    let here : p a ≡ q a = same a (omega arith) in
    let rest = all-same p q (a + 1) n (λ j below. same j (omega arith)) in
    rw here (ap (λ b. q a && b) rest)
