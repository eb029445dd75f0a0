-- What is read of words that keep the rules is what they ask for.
use Rattle.std.proofs.Common.{◌≡◌, ◌∙◌, ◌⊎◌, inl, inr, ℕ, Bool, true, false, List, [], ◌∷◌, Option, Some}
use Rattle.std.proofs.Common.{None, refl, codes, sym, subst}
use Rattle.std.specs.Prelude.{◌-◌, ◌^◌, ◌&&◌, is_none, length, nat_le, if◌then◌else◌}
use Rattle.std.specs.List.{list_all}
use Rattle.std.specs.Str.{bytes_eq}
use Rattle.std.proofs.lemmas.Slice.Eq.{bytes_eq-Decides}
use Rattle.clap.specs.Words.{first_of, matches_of}
use Rattle.sv_words.specs.declared.ask.Ask.TheVariants.{Bench, Check, Generate, Replay}
use Rattle.sv_words.specs.Reading.{Reads, command}
use Rattle.sv_words.specs.Words.{asked_alone, asked_by, asked_of_text, asked_read, asked_with, count_of}
use Rattle.sv_words.specs.Words.{is_digit, is_number, number_within, parsed, seed_of, within}
use Rattle.sv_words.proofs.Places.{bench_read, both_hold, check_alone, gen_read, replay_alone}

-- what the command reads of these words asks for what they ask for
abbrev pub IsRead : List (List ℕ) → Type 0
IsRead words = asked_read (first_of (codes "word") (matches_of command words))
    (first_of (codes "seed") (matches_of command words))
    (first_of (codes "count") (matches_of command words)) ≡ asked_by words

same_text : (word text : List ℕ) → bytes_eq word text ≡ true → word ≡ text
same_text word text e = (bytes_eq-Decides word text).0 e

read_as : (words : List (List ℕ)) (word seed count : Option (List ℕ)) → Reads words word seed count
    → asked_read word seed count ≡ asked_by words → IsRead words
read_as words word seed count reads is = (λ i. asked_read (reads.0 i) (reads.1 i) (reads.2 i)) ∙ is

nothing : true ≡ false → ⊥
nothing e = let f : false ≡ true = sym e in cc

-- ---- one word

alone : (word : List ℕ) → is_none (asked_alone word) ≡ false → IsRead (word ∷ [])
alone word kept = by_check (bytes_eq word (codes "check")) refl where
  by_replay : (b : Bool) → bytes_eq word (codes "replay") ≡ b → is_none (if b then Some Replay else None)
      ≡ false → IsRead (word ∷ [])
  by_replay true e is = subst (λ (w : List ℕ). IsRead (w ∷ [])) (sym (same_text word (codes "replay") e))
      (read_as (codes "replay" ∷ []) (Some (codes "replay")) None None replay_alone refl)
  by_replay false e is = absurd (nothing is)

  by_check : (b : Bool) → bytes_eq word (codes "check") ≡ b → IsRead (word ∷ [])
  by_check true e = subst (λ (w : List ℕ). IsRead (w ∷ [])) (sym (same_text word (codes "check") e))
      (read_as (codes "check" ∷ []) (Some (codes "check")) None None check_alone refl)
  by_check false e = by_replay (bytes_eq word (codes "replay")) refl
      (subst (λ (b : Bool). is_none (if b then Some Check else if bytes_eq word
      (codes "replay") then Some Replay else None) ≡ false) e kept)

-- ---- three words

-- a number begins with a digit
record Number (word : List ℕ) : Type 0 where
  digit : ℕ
  rest : List ℕ
  whole : word ≡ digit ∷ rest
  is : is_digit digit ≡ true

number : (word : List ℕ) → is_number word ≡ true → Number word
number [] is = absurd (let f : false ≡ true = is in cc)
number (c ∷ word) is = record {
  digit = c;
  rest = word;
  whole = refl;
  is = (both_hold (is_digit c) (list_all is_digit word)
      (both_hold (list_all is_digit (c ∷ word)) (nat_le 1 (length (c ∷ word)) && nat_le
      (length (c ∷ word)) 20) is).0).0;
}

needs_number : (least most : ℕ) (word : List ℕ) → is_none (number_within least most word) ≡ false
    → is_number word ≡ true
needs_number least most word kept = by_test (is_number word) kept where
  by_test : (b : Bool) → is_none (if b then within least most (parsed word) else None) ≡ false → b ≡ true
  by_test true is = refl
  by_test false is = absurd (nothing is)

-- the two words that have numbers
abbrev IsNamed : List ℕ → Type 0
IsNamed word = (word ≡ codes "gen") ⊎ (word ≡ codes "bench")

named : (word : List ℕ) (seed count : ℕ) → is_none (asked_of_text word seed count) ≡ false → IsNamed word
named word seed count kept = by_gen (bytes_eq word (codes "gen")) refl kept where
  by_bench : (b : Bool) → bytes_eq word (codes "bench") ≡ b
      → is_none (if b then Some (Bench seed count) else None) ≡ false → IsNamed word
  by_bench true e is = inr (same_text word (codes "bench") e)
  by_bench false e is = absurd (nothing is)

  by_gen : (b : Bool) → bytes_eq word (codes "gen") ≡ b
      → is_none (if b then Some (Generate seed count) else if bytes_eq word (codes "bench") then Some
      (Bench seed count) else None) ≡ false → IsNamed word
  by_gen true e is = inl (same_text word (codes "gen") e)
  by_gen false e is = by_bench (bytes_eq word (codes "bench")) refl is

-- what three words that keep the rules have
record Kept (word : List ℕ) (o p : Option ℕ) : Type 0 where
  named : IsNamed word
  seed : is_none o ≡ false
  count : is_none p ≡ false

parts : (word : List ℕ) (seed count : Option ℕ) → is_none (asked_with word seed count) ≡ false
    → Kept word seed count
parts word None count kept = absurd (nothing kept)
parts word (Some s) None kept = absurd (nothing kept)
parts word (Some s) (Some n) kept = record { named = named word s n kept; seed = refl; count = refl }

three_named : (word seed count : List ℕ) → IsNamed word → Number seed → Number count
    → IsRead (word ∷ seed ∷ count ∷ [])
three_named word seed count is s n =
    subst (λ (w : List ℕ). IsRead (word ∷ w ∷ count ∷ [])) (sym s.whole)
    (subst (λ (w : List ℕ). IsRead (word ∷ (s.digit ∷ s.rest) ∷ w ∷ [])) (sym n.whole)
    (by_name is)) where
      first : List ℕ
      first = s.digit ∷ s.rest

      second : List ℕ
      second = n.digit ∷ n.rest

      by_name : IsNamed word → IsRead (word ∷ first ∷ second ∷ [])
      by_name (inl gen) = subst (λ (w : List ℕ). IsRead (w ∷ first ∷ second ∷ [])) (sym gen)
          (read_as (codes "gen" ∷ first ∷ second ∷ []) (Some (codes "gen")) (Some first) (Some second)
          (gen_read s.rest n.rest s.digit n.digit s.is n.is) refl)
      by_name (inr bench) = subst (λ (w : List ℕ). IsRead (w ∷ first ∷ second ∷ [])) (sym bench)
          (read_as (codes "bench" ∷ first ∷ second ∷ []) (Some (codes "bench")) (Some first) (Some second)
          (bench_read s.rest n.rest s.digit n.digit s.is n.is) refl)

pub kept_read : (words : List (List ℕ)) → is_none (asked_by words) ≡ false → IsRead words
kept_read [] kept = absurd (nothing kept)
kept_read (word ∷ []) kept = alone word kept
kept_read (word ∷ seed ∷ []) kept = absurd (nothing kept)
kept_read (word ∷ seed ∷ count ∷ []) kept =
    let is = parts word (seed_of seed) (count_of count) kept in
    three_named word seed count is.named (number seed (needs_number 0 (2 ^ 64 - 1) seed is.seed))
    (number count (needs_number 1 100000 count is.count))
kept_read (word ∷ seed ∷ count ∷ more ∷ rest) kept = absurd (nothing kept)
