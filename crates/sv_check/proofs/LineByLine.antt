-- What a text comes to, one line after another.
use Rattle.std.proofs.Common.{◌≡◌, ℕ, zero, suc, ◌+◌, ◌<◌, true, false, List, [], ◌∷◌, ◌⊎◌, inl, inr}
use Rattle.std.proofs.Common.{length, get_or, take, map, reverse, None, Some, Result, Ok, Err, Bor, refl}
use Rattle.std.proofs.Common.{sym, ◌∙◌, ap, subst, arith}
use Rattle.std.specs.Prelude.{⊤}
use Rattle.std.proofs.lemmas.List.{map_more, get_or-map, length-map, reverse-append, take_all}
use Rattle.sv_model.specs.declared.line.Line.{Line}
use Rattle.sv_model.specs.declared.line.Trace.{Trace}
use Rattle.sv_model.specs.declared.refusal.Fault.{Fault}
use Rattle.sv_model.specs.declared.refusal.Fault.TheVariants.{Refused, Memory}
use Rattle.sv_trace.specs.Reading.{line_cause, line_of, Answers}
use Rattle.sv_rules.specs.Causes.{rule_cause, Takes}
use Rattle.sv_rules.specs.Ends.{EndsWith, is_unfinished}
use Rattle.sv_rules.specs.First.{or_else}
use Rattle.sv_rules.specs.Outcome.{NoneBefore, cause_after, cause_at, taken_from}
use Rattle.sv_rules.specs.Taken.{Taken, nothing_taken, taken_of, taken_with}
use Rattle.sv_check.specs.Telling.{TakesBytes, Tells}

-- One line.

pub line_taken : (old new : Taken) (bytes : List ℕ) (number : ℕ) (line : Line) (result : Result ⊤ Fault)
    → Answers (line_cause bytes) (line_of bytes) number (Ok line) → Takes old line number new result
    → TakesBytes old bytes number new result
line_taken old new bytes number line (Ok u) read takes = (
  ap (λ c. or_else c (rule_cause old (line_of bytes))) read.0
      ∙ subst (λ l. rule_cause old l ≡ None) read.1 takes.0,
  subst (λ l. new ≡ taken_with old l) read.1 takes.1,
)
line_taken old new bytes number line (Err (Refused refusal)) read takes = (
  ap (λ c. or_else c (rule_cause old (line_of bytes))) read.0
      ∙ subst (λ l. rule_cause old l ≡ Some refusal.cause) read.1 takes.0,
  takes.1,
  takes.2,
)
line_taken old new bytes number line (Err Memory) read takes = takes

pub line_refused : (old : Taken) (bytes : List ℕ) (number : ℕ) (fault : Fault)
    → Answers (line_cause bytes) (line_of bytes) number (Err fault)
    → TakesBytes old bytes number old (Err fault)
line_refused old bytes number (Refused refusal) read =
    (ap (λ c. or_else c (rule_cause old (line_of bytes))) read.0, read.1, refl)
line_refused old bytes number Memory read = refl

-- The lines before a place.

pub nothing_yet : taken_from [] ≡ nothing_taken
unfolding taken_from taken_of
nothing_yet = refl

taken_more : (lines : List (List ℕ)) (i : ℕ) → i < length lines → taken_from (take (i + 1) lines)
    ≡ taken_with (taken_from (take i lines)) (line_of (get_or lines i []))
unfolding taken_from taken_of
taken_more lines i lt =
    ap (λ (ls : List Line). taken_of (reverse ls)) (map_more line_of lines i [] lt)
    ∙ ap taken_of (reverse-append (map line_of (take i lines)) (line_of (get_or lines i []) ∷ []))

abbrev Text : Type 0
Text = Bor (List ℕ)

abbrev pub texts : List Text → List (List ℕ)
texts ls = map (λ (x : Text). x.now) ls

-- the bytes of a line of the text
bytes_at : (ls : List Text) (i : ℕ) (d : Text) → i < length ls → get_or (texts ls) i [] ≡ (get_or ls i d).now
bytes_at ls i d lt = get_or-map (λ (x : Text). x.now) ls i d [] lt

as_long : (ls : List Text) → length (texts ls) ≡ length ls
as_long ls = length-map ls (λ (x : Text). x.now)

-- why the next line is refused, by what the lines before it come to
cause_here : (ls : List Text) (i : ℕ) (d : Text) (s : Taken) → i < length ls → s
    ≡ taken_from (take i (texts ls)) → cause_at (texts ls) i ≡ cause_after s (get_or ls i d).now
unfolding cause_at
cause_here ls i d s lt is = (λ j. cause_after (sym is j) (bytes_at ls i d lt j))

pub none_yet : (lines : List (List ℕ)) → NoneBefore lines 0
none_yet lines earlier lt = absurd (omega (arith, lt))

none_more : (lines : List (List ℕ)) (i : ℕ) → NoneBefore lines i → cause_at lines i ≡ None
    → NoneBefore lines (i + 1)
none_more lines i none here earlier lt = elim (last_or_before earlier i lt) [
  | inl before ↦ none earlier before
  | inr same ↦ subst (λ k. cause_at lines k ≡ None) (sym same) here
]
  where
    last_or_before : (k n : ℕ) → k < n + 1 → (k < n) ⊎ (k ≡ n)
    last_or_before zero zero lt = inr refl
    last_or_before zero (suc n) lt = inl (omega arith)
    last_or_before (suc k) zero lt = absurd (omega (arith, lt))
    last_or_before (suc k) (suc n) lt = elim (last_or_before k n (omega (arith, lt))) [
      | inl earlier ↦ inl (omega (arith, earlier))
      | inr same ↦ inr (ap suc same)
    ]

-- what is known before the line at this place: how many lines were taken, what they come to, and that none
-- was refused
abbrev pub IsReadTo : List (List ℕ) → ℕ → Taken → Type 0
IsReadTo lines i s = (s.lines ≡ i) × (s ≡ taken_from (take i lines)) × NoneBefore lines i

pub begins : (lines : List (List ℕ)) (s : Taken) → s ≡ nothing_taken → IsReadTo lines 0 s
begins lines s e = (ap (λ (x : Taken). x.lines) e, e ∙ sym nothing_yet, none_yet lines)

-- a line that is taken
pub one_more : (ls : List Text) (i : ℕ) (d : Text) (old new : Taken) → i < length ls
    → IsReadTo (texts ls) i old
    → (cause_after old (get_or ls i d).now ≡ None) × (new ≡ taken_with old (line_of (get_or ls i d).now))
    → IsReadTo (texts ls) (i + 1) new
one_more ls i d old new lt read taken = (
  ap (λ (x : Taken). x.lines) taken.1 ∙ ap (λ n. n + 1) read.0,
  taken.1 ∙ (λ j. taken_with (read.1 j) (line_of (sym (bytes_at ls i d lt) j)))
      ∙ sym (taken_more (texts ls) i (subst (λ n. i < n) (sym (as_long ls)) lt)),
  none_more (texts ls) i read.2 (cause_here ls i d old lt read.1 ∙ taken.0),
)

-- and one that is not
pub stopped : (ls : List Text) (i : ℕ) (d : Text) (old new : Taken) (fault : Fault) → i < length ls
    → IsReadTo (texts ls) i old
    → TakesBytes old (get_or ls i d).now (i + 1) new (Err fault) → Tells (texts ls) (Err fault)
stopped ls i d old new (Refused refusal) lt read took = inl (record {
  place = i;
  inside = subst (λ n. i < n) (sym (as_long ls)) lt;
  number = took.1;
  cause = cause_here ls i d old lt read.1 ∙ took.0;
  least = read.2;
})
stopped ls i d old new Memory lt read took = tt

-- the end of the text
pub all_read : (ls : List Text) (i : ℕ) (s : Taken) (result : Result Trace Fault) → i ≡ length ls
    → IsReadTo (texts ls) i s → EndsWith s result → Tells (texts ls) result
all_read ls i s result e read ends = by_end result ends
  where
    whole : i ≡ length (texts ls)
    whole = e ∙ sym (as_long ls)

    said : s ≡ taken_from (texts ls)
    said = read.1 ∙ ap taken_from (let n = whole in take_all i (texts ls) (omega (arith, n)))

    good : NoneBefore (texts ls) (length (texts ls))
    good = subst (λ n. NoneBefore (texts ls) n) whole read.2

    by_end : (r : Result Trace Fault) → EndsWith s r → Tells (texts ls) r
    by_end (Ok t) h = record {
      good = good;
      closed = subst (λ (x : Taken). is_unfinished x.trace ≡ false) said h.0;
      made = h.1
          ∙ ap (λ (x : Taken). x.trace) said;
    }
    by_end (Err (Refused refusal)) h = inr (record {
      good = good;
      left = subst (λ (x : Taken). is_unfinished x.trace ≡ true) said h.0;
      number = h.2 ∙ ap (λ n. n + 1) (read.0 ∙ whole);
      cause = h.1;
    })
    by_end (Err Memory) h = tt
