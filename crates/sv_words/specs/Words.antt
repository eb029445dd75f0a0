-- The rules of words: `check` alone, `replay` alone, or `gen` or `bench` with SEED and COUNT after it.
use Rattle.std.specs.Prelude.{ℕ, ◌-◌, ◌^◌, ◌≤◌, ⊤, Bool, ◌&&◌, nat_le, nat_lt, List, [], ◌∷◌, Option, Some}
use Rattle.std.specs.Prelude.{None, codes, length, map, string_bytes, if◌then◌else◌}
use Rattle.std.specs.List.{list_all}
use Rattle.std.specs.Str.{bytes_eq}
use Rattle.std.specs.Str.Parse.{digits_value}
use Rattle.std.specs.declared.alloc.Global.{Global}
use Rattle.std.specs.declared.string.String.{String}
use Rattle.sv_words.specs.declared.ask.Ask.{Ask}
use Rattle.sv_words.specs.declared.ask.Ask.TheVariants.{Check, Replay, Generate, Bench}

abbrev pub is_digit : ℕ → Bool
is_digit c = nat_le 48 c && nat_le c 57

-- 1 to 20 ASCII digits
abbrev pub is_number : List ℕ → Bool
is_number word = list_all is_digit word && (nat_le 1 (length word) && nat_le (length word) 20)

-- the number that the digits write, where it has 64 bits
abbrev pub parsed : List ℕ → Option ℕ
parsed digits = if nat_lt (digits_value 10 digits) (2 ^ 64) then Some (digits_value 10 digits) else None

abbrev pub within : ℕ → ℕ → Option ℕ → Option ℕ
within least most None = None
within least most (Some number) = if nat_le least number && nat_le number most then Some number else None

-- the number that the word writes, where it has 1 to 20 digits and is within these bounds
abbrev pub number_within : ℕ → ℕ → List ℕ → Option ℕ
number_within least most word = if is_number word then within least most (parsed word) else None

abbrev pub seed_of : List ℕ → Option ℕ
seed_of word = number_within 0 (2 ^ 64 - 1) word

abbrev pub count_of : List ℕ → Option ℕ
count_of word = number_within 1 100000 word

-- the word is this text
abbrev pub is : List ℕ → List ℕ → Bool
is word text = bytes_eq word text

abbrev pub asked_of_text : List ℕ → ℕ → ℕ → Option Ask
asked_of_text word seed count = if is word (codes "gen") then Some (Generate seed count) else if is word
    (codes "bench") then Some (Bench seed count) else None

abbrev pub asked_with : List ℕ → Option ℕ → Option ℕ → Option Ask
asked_with word (Some seed) (Some count) = asked_of_text word seed count
asked_with word (Some seed) None = None
asked_with word None count = None

abbrev pub asked_alone : List ℕ → Option Ask
asked_alone word = if is word (codes "check") then Some Check else if is word
    (codes "replay") then Some Replay else None

-- what the words ask for that stand first, second and third
abbrev pub asked_read : Option (List ℕ) → Option (List ℕ) → Option (List ℕ) → Option Ask
asked_read (Some word) None None = asked_alone word
asked_read (Some word) (Some seed) (Some count) = asked_with word (seed_of seed) (count_of count)
asked_read word seed count = None

-- what these words ask for; None where they break the rules
abbrev pub asked_by : List (List ℕ) → Option Ask
asked_by (word ∷ []) = asked_alone word
asked_by (word ∷ seed ∷ count ∷ []) = asked_with word (seed_of seed) (count_of count)
asked_by other = None

abbrev pub texts_of : List (String Global) → List (List ℕ)
texts_of words = map (λ (word : String Global). string_bytes word) words

abbrev pub asked : List (String Global) → Option Ask
asked words = asked_by (texts_of words)

-- where works are counted, they are 1 to 100,000
abbrev pub IsInBounds : Ask → Type 0
IsInBounds Check = ⊤
IsInBounds Replay = ⊤
IsInBounds (Generate seed count) = (1 ≤ count) × (count ≤ 100000)
IsInBounds (Bench seed count) = (1 ≤ count) × (count ≤ 100000)
