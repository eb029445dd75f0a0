-- Words of digits alone are numerals.
use Rattle.std.proofs.Common.{◌≡◌, ◌≢◌, ◌≤◌, ◌<◌, ℕ, Bool, true, false, List, [], ◌∷◌, Some, None, Result}
use Rattle.std.proofs.Common.{Ok, Err, length, get_or, refl, sym, ◌∙◌, ap, subst, arith}
use Rattle.std.specs.Prelude.{◌&&◌, ◌^◌, nat_le, nat_lt, if◌then◌else◌}
use Rattle.std.specs.List.{list_all}
use Rattle.std.specs.Result.{OkIff, result_ok}
use Rattle.std.specs.Str.Parse.{IsNumeral, AllDigits, ParsesUnsigned, digits_value}
use Rattle.std.proofs.lemmas.Bool.{leb-true, lt-ltb, ltb-true}
use Rattle.std.proofs.lemmas.Str.Parse.{tells_digits, without_leading_plus_none}
use Rattle.sv_words.specs.Words.{is_digit, is_number, parsed}
use Rattle.sv_words.proofs.Places.{both_hold}

digit_low : (c : ℕ) → is_digit c ≡ true → 48 ≤ c
digit_low c is = leb-true 48 c (both_hold (nat_le 48 c) (nat_le c 57) is).0

digit_high : (c : ℕ) → is_digit c ≡ true → c ≤ 57
digit_high c is = leb-true c 57 (both_hold (nat_le 48 c) (nat_le c 57) is).1

all_digits : (word : List ℕ) → list_all is_digit word ≡ true → AllDigits 10 word
all_digits [] is = tells_digits.empty
all_digits (c ∷ word) is =
    let parts = both_hold (is_digit c) (list_all is_digit word) is in
    tells_digits.more c word (digit_low c parts.0, digit_high c parts.0) (all_digits word parts.1)

not_plus : (word : List ℕ) → list_all is_digit word ≡ true → get_or word 0 0 ≢ 43
not_plus [] is e = absurd (let f : 0 ≡ 43 = e in omega (arith, f))
not_plus (c ∷ word) is e = let low : 48 ≤ c = digit_low c
    (both_hold (is_digit c) (list_all is_digit word) is).0 in
    absurd (let f : c ≡ 43 = e in omega (arith, low, f))

-- the number of a numeral, where it has 64 bits
read : {E : Type 0} (word : List ℕ) (r : Result ℕ E) → IsNumeral 10 word
    → OkIff r (IsNumeral 10 word × (digits_value 10 word < 2 ^ 64)) (digits_value 10 word) → result_ok r
    ≡ parsed word
read word (Ok x) is (fits, same) = ap Some same ∙ sym
    (shown (lt-ltb (digits_value 10 word) (2 ^ 64) fits.1)) where
      shown : nat_lt (digits_value 10 word) (2 ^ 64) ≡ true → parsed word ≡ Some (digits_value 10 word)
      shown e = ap (λ (b : Bool). if b then Some (digits_value 10 word) else None) e
read word (Err e) is large = by_test (nat_lt (digits_value 10 word) (2 ^ 64))
    (λ fits. large (is, ltb-true (digits_value 10 word) (2 ^ 64) fits)) where
      by_test : (b : Bool) → (b ≡ true → ⊥) → None ≡ (if b then Some (digits_value 10 word) else None)
      by_test true small = absurd (small refl)
      by_test false small = refl

pub told : {E : Type 0} (word : List ℕ) (r : Result ℕ E) → is_number word ≡ true
    → ParsesUnsigned 64 10 word r → result_ok r ≡ parsed word
told {E = E} word r is parses =
    let parts = both_hold (list_all is_digit word) (nat_le 1 (length word) && nat_le (length word) 20) is in
    let numeral : IsNumeral 10 word = (
      leb-true 1 (length word)
          (both_hold (nat_le 1 (length word)) (nat_le (length word) 20) parts.1).0,
      all_digits word parts.0,
    ) in
    read word r numeral (subst (λ (w : List ℕ). OkIff {E = E} r
    (IsNumeral 10 w × (digits_value 10 w < 2 ^ 64)) (digits_value 10 w))
    (without_leading_plus_none word (not_plus word parts.0)) parses)
