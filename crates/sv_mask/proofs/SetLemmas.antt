-- The members of intersections, and the tests on them.
use Rattle.std.proofs.Common.{ℕ, ◌≡◌, ◌≢◌, ◌<◌, ◌^◌, ◌↔◌, IsTrue, true, false, not, nat_eq, min, arith}
use Rattle.std.proofs.Common.{refl, sym, subst, ◌∙◌}
use Rattle.std.specs.Int.{bit_at, w64, trailing_zeros}
use Rattle.std.specs.Int.RustNames.{bit_and}
use Rattle.std.proofs.lemmas.Nat.Bits.{bit_at_and, bit_at-zero, bit_at-lt, bit_at-trailing_zeros}
use Rattle.std.proofs.lemmas.Nat.Bits.{same_from_bits}
use Rattle.std.proofs.lemmas.Bool.{eq-eqb, ne_eqb, eqb-true}
use Rattle.sv_mask.specs.Sets.{Has, Meets, Includes}

-- a set that is not empty has a member
member_of : (n : ℕ) → n < 2 ^ 64 → n ≢ 0 → (k : ℕ) × Has n k
member_of n small more = let h = bit_at-trailing_zeros w64 n (omega (arith, more)) small in
    (trailing_zeros w64 n, h.1)

-- the members of an intersection are those of both sets
Has-and : (a b k : ℕ) → Has (bit_and a b) k → Has a k × Has b k
Has-and a b k h = let e = bit_at_and a b k in let x = bit_at-lt a k in let y = bit_at-lt b k in
    (omega arith, omega arith)

Has-and_both : (a b k : ℕ) → Has a k → Has b k → Has (bit_and a b) k
Has-and_both a b k h i = let e = bit_at_and a b k in omega arith

meets_from : (a b : ℕ) → bit_and a b < 2 ^ 64 → bit_and a b ≢ 0 → Meets a b
meets_from a b small more = let m = member_of (bit_and a b) small more in let h = Has-and a b m.0 m.1 in
    (m.0, h.0, h.1)

meets_to : (a b : ℕ) → Meets a b → bit_and a b ≢ 0
meets_to a b m e = let h = subst (λ n. Has n m.0) e (Has-and_both a b m.0 m.1 m.2) in let z =
    bit_at-zero m.0 in omega arith

from_test : (n : ℕ) → IsTrue (not (nat_eq n 0)) → n ≢ 0
from_test n h e = let k : nat_eq n 0 ≡ true = eq-eqb n 0 e in let f : false ≡ true = rw k at h in cc

to_test : (n : ℕ) → n ≢ 0 → IsTrue (not (nat_eq n 0))
to_test n h = let k : nat_eq n 0 ≡ false = ne_eqb n 0 h in rw k refl

-- two sets meet exactly where their intersection is not empty
pub meets_test : (a b : ℕ) → bit_and a b < 2 ^ 64 → IsTrue (not (nat_eq (bit_and a b) 0)) ↔ Meets a b
meets_test a b small = (λ t. meets_from a b small (from_test _ t), λ m. to_test _ (meets_to a b m))

includes_from : (a b : ℕ) → bit_and a b ≡ b → Includes a b
includes_from a b e k h = (Has-and a b k (subst (λ n. Has n k) (sym e) h)).0

least_bit : (a b k : ℕ) → Includes a b → min (bit_at a k) (bit_at b k) ≡ bit_at b k
least_bit a b k all = let x = bit_at-lt a k in let y = bit_at-lt b k in let h = all k in grind arith

includes_to : (a b : ℕ) → Includes a b → bit_and a b ≡ b
includes_to a b all = same_from_bits (bit_and a b) b (λ k. bit_at_and a b k ∙ least_bit a b k all)

-- a set includes another exactly where their intersection is the other
pub includes_test : (a b : ℕ) → IsTrue (nat_eq (bit_and a b) b) ↔ Includes a b
includes_test a b = (λ t. includes_from a b (eqb-true _ _ t), λ all. eq-eqb _ _ (includes_to a b all))
