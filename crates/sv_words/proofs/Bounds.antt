-- What words ask for has a number of works in its bounds.
use Rattle.std.proofs.Common.{◌≡◌, ◌≤◌, ℕ, Bool, true, false, List, [], ◌∷◌, Option, Some, None, refl, codes}
use Rattle.std.specs.Prelude.{◌&&◌, IfSome, nat_le, if◌then◌else◌}
use Rattle.std.specs.Str.{bytes_eq}
use Rattle.std.proofs.lemmas.Bool.{leb-true}
use Rattle.sv_words.specs.declared.ask.Ask.TheVariants.{Bench, Check, Generate, Replay}
use Rattle.sv_words.specs.Words.{IsInBounds, asked_alone, asked_by, asked_of_text, asked_with, count_of}
use Rattle.sv_words.specs.Words.{is_number, parsed, seed_of, within}
use Rattle.sv_words.proofs.Places.{both_hold}

-- a number of works
abbrev IsCount : ℕ → Type 0
IsCount count = (1 ≤ count) × (count ≤ 100000)

within_bounds : (number : Option ℕ) → IfSome (within 1 100000 number) IsCount
within_bounds None = tt
within_bounds (Some n) = by_test (nat_le 1 n && nat_le n 100000)
    (both_hold (nat_le 1 n) (nat_le n 100000)) where
      by_test : (b : Bool) → (b ≡ true → (nat_le 1 n ≡ true) × (nat_le n 100000 ≡ true))
          → IfSome (if b then Some n else None) IsCount
      by_test true both = (leb-true 1 n (both refl).0, leb-true n 100000 (both refl).1)
      by_test false both = tt

count_in_bounds : (word : List ℕ) → IfSome (count_of word) IsCount
count_in_bounds word = by_test (is_number word) where
  by_test : (b : Bool) → IfSome (if b then within 1 100000 (parsed word) else None) IsCount
  by_test true = within_bounds (parsed word)
  by_test false = tt

alone_in_bounds : (word : List ℕ) → IfSome (asked_alone word) IsInBounds
alone_in_bounds word = by_tests (bytes_eq word (codes "check")) (bytes_eq word (codes "replay")) where
  by_tests : (b c : Bool) → IfSome (if b then Some Check else if c then Some Replay else None) IsInBounds
  by_tests true c = tt
  by_tests false true = tt
  by_tests false false = tt

named_in_bounds : (word : List ℕ) (seed count : ℕ) → IsCount count
    → IfSome (asked_of_text word seed count) IsInBounds
named_in_bounds word seed count is = by_tests (bytes_eq word (codes "gen"))
    (bytes_eq word (codes "bench")) where
      by_tests : (b c : Bool) → IfSome (if b then Some (Generate seed count) else if c then Some
          (Bench seed count) else None) IsInBounds
      by_tests true c = is
      by_tests false true = is
      by_tests false false = tt

three_in_bounds : (word : List ℕ) (seed count : Option ℕ) → IfSome count IsCount
    → IfSome (asked_with word seed count) IsInBounds
three_in_bounds word None count is = tt
three_in_bounds word (Some seed) None is = tt
three_in_bounds word (Some seed) (Some count) is = named_in_bounds word seed count is

pub asked_in_bounds : (words : List (List ℕ)) → IfSome (asked_by words) IsInBounds
asked_in_bounds [] = tt
asked_in_bounds (word ∷ []) = alone_in_bounds word
asked_in_bounds (word ∷ seed ∷ []) = tt
asked_in_bounds (word ∷ seed ∷ count ∷ []) = three_in_bounds word (seed_of seed) (count_of count)
    (count_in_bounds count)
asked_in_bounds (word ∷ seed ∷ count ∷ more ∷ rest) = tt
