-- Tests on the bits of sets.
use Rattle.std.proofs.Common.{ℕ, zero, suc, ◌≡◌, ◌<◌, ◌≤◌, ◌+◌, ◌-◌, ◌*◌, ◌^◌, ◌⊎◌, inl, inr, Bool, true}
use Rattle.std.proofs.Common.{false, ◌&&◌, ◌||◌, nat_eq, nat_lt, cond, min, max, arith, refl, sym, ap, ◌∙◌}
use Rattle.std.specs.Int.{bit_at}
use Rattle.std.specs.Int.RustNames.{bit_and, bit_or}
use Rattle.std.proofs.lemmas.Nat.Bits.{bit_at_and, bit_at_or, bit_at-zero, bit_at-lt, bit_at_cat_low}
use Rattle.std.proofs.lemmas.Nat.Bits.{bit_at_cat_high, bit_at_above, same_from_bits}
use Rattle.std.proofs.lemmas.Bool.{lt-ltb, le-ltb, cases_order}
use Rattle.std.proofs.Math.Nat.{pow-suc}
use Rattle.sv_mask.specs.Sets.{has}
use Rattle.sv_mask.specs.Scopes.{number_where}

-- a bit is 0 or 1
bit_cases : (n k : ℕ) → (bit_at n k ≡ 0) ⊎ (bit_at n k ≡ 1)
bit_cases n k = let h = bit_at-lt n k in grind arith

pub has-or : (a b k : ℕ) → has (bit_or a b) k ≡ (has a k || has b k)
has-or a b k = rw (bit_at_or a b k) (or_of (bit_at a k) (bit_at b k) (bit_cases a k) (bit_cases b k))
  where
    or_of : (x y : ℕ) → (x ≡ 0) ⊎ (x ≡ 1) → (y ≡ 0) ⊎ (y ≡ 1) → nat_eq (max x y) 1
        ≡ (nat_eq x 1 || nat_eq y 1)
    or_of x y (inl p) (inl q) = rw p (rw q refl)
    or_of x y (inl p) (inr q) = rw p (rw q refl)
    or_of x y (inr p) (inl q) = rw p (rw q refl)
    or_of x y (inr p) (inr q) = rw p (rw q refl)

pub has-and : (a b k : ℕ) → has (bit_and a b) k ≡ (has a k && has b k)
has-and a b k = rw (bit_at_and a b k) (and_of (bit_at a k) (bit_at b k) (bit_cases a k) (bit_cases b k))
  where
    and_of : (x y : ℕ) → (x ≡ 0) ⊎ (x ≡ 1) → (y ≡ 0) ⊎ (y ≡ 1) → nat_eq (min x y) 1
        ≡ (nat_eq x 1 && nat_eq y 1)
    and_of x y (inl p) (inl q) = rw p (rw q refl)
    and_of x y (inl p) (inr q) = rw p (rw q refl)
    and_of x y (inr p) (inl q) = rw p (rw q refl)
    and_of x y (inr p) (inr q) = rw p (rw q refl)

pub has-zero : (k : ℕ) → has 0 k ≡ false
has-zero k = rw (bit_at-zero k) refl

-- sets with the same members are the same
pub same_from_has : (a b : ℕ) → ((k : ℕ) → has a k ≡ has b k) → a ≡ b
same_from_has a b same = same_from_bits a b (λ k. bit_of (bit_at a k) (bit_at b k) (bit_cases a k)
    (bit_cases b k) (same k))
  where
    bit_of : (x y : ℕ) → (x ≡ 0) ⊎ (x ≡ 1) → (y ≡ 0) ⊎ (y ≡ 1) → nat_eq x 1 ≡ nat_eq y 1 → x ≡ y
    bit_of x y (inl p) (inl q) e = p ∙ sym q
    bit_of x y (inl p) (inr q) e = let f : false ≡ true = rw (p, q) at e in cc
    bit_of x y (inr p) (inl q) e = let f : true ≡ false = rw (p, q) at e in cc
    bit_of x y (inr p) (inr q) e = p ∙ sym q

-- a further member n or none, in place of a test
more : (b : Bool) (n m : ℕ) → m + cond b (2 ^ n) 0 ≡ cond b 1 0 * 2 ^ n + m
more true n m = omega arith
more false n m = omega arith

pub number_where-lt : (n : ℕ) (test : ℕ → Bool) → number_where n test < 2 ^ n
unfolding number_where
number_where-lt zero test = omega arith
number_where-lt (suc n) test =
    let below = number_where-lt n test in
    let twice = pow-suc 2 n in
    elim (test n) as (λ b. number_where n test + cond b (2 ^ n) 0 < 2 ^ suc n)
    [ true ↦ omega arith | false ↦ omega arith ]

below_n : (b : Bool) (n m k : ℕ) → k < n → has (m + cond b (2 ^ n) 0) k ≡ has m k
below_n b n m k low = rw (more b n m) (rw (bit_at_cat_low (cond b 1 0) n m k low) refl)

from_n : (b : Bool) (n m k : ℕ) → m < 2 ^ n → n ≤ k → has (m + cond b (2 ^ n) 0) k ≡ has (cond b 1 0) (k - n)
from_n b n m k small high = rw (more b n m) (rw (bit_at_cat_high (cond b 1 0) n m k small high) refl)

first_bit : (b : Bool) → has (cond b 1 0) 0 ≡ b
first_bit true = refl
first_bit false = refl

later_bit : (b : Bool) (j : ℕ) → 0 < j → has (cond b 1 0) j ≡ false
later_bit true j more = rw (bit_at_above 1 1 j (omega arith) more) refl
later_bit false j more = rw (bit_at-zero j) refl

where_more : (n : ℕ) (test : ℕ → Bool) (m k : ℕ) → m < 2 ^ n → has m k ≡ (nat_lt k n && test k) → (k ≡ n)
    ⊎ ((k < n) ⊎ (n < k)) → has (m + cond (test n) (2 ^ n) 0) k ≡ (nat_lt k (suc n) && test k)
where_more n test m k small same (inl e) =
    let inside : nat_lt k (suc n) ≡ true = lt-ltb k (suc n) (omega arith) in
    let gap : k - n ≡ 0 = omega arith in
    rw inside (from_n (test n) n m k small (omega arith) ∙ ap (has (cond (test n) 1 0)) gap
    ∙ first_bit (test n) ∙ ap test (sym e))
where_more n test m k small same (inr (inl low)) =
    let inside : nat_lt k (suc n) ≡ true = lt-ltb k (suc n) (omega arith) in
    let before : nat_lt k n ≡ true = lt-ltb k n low in
    rw inside (below_n (test n) n m k low ∙ same ∙ ap (λ b. b && test k) before)
where_more n test m k small same (inr (inr high)) =
    let outside : nat_lt k (suc n) ≡ false = le-ltb k (suc n) (omega arith) in
    rw outside (from_n (test n) n m k small (omega arith) ∙ later_bit (test n) (k - n) (omega arith))

-- the members of the set of the numbers below n that pass a test
pub has-number_where : (n : ℕ) (test : ℕ → Bool) (k : ℕ) → has (number_where n test) k
    ≡ (nat_lt k n && test k)
unfolding number_where
has-number_where zero test k =
    let outside : nat_lt k 0 ≡ false = le-ltb k 0 (omega arith) in
    rw outside (has-zero k)
has-number_where (suc n) test k =
    where_more n test (number_where n test) k (number_where-lt n test) (has-number_where n test k)
    (cases_order k n)
