-- The trace of a text that is not refused is lawful.
use Rattle.std.proofs.Common.{◌≡◌, ℕ, zero, suc, ◌+◌, ◌<◌, ◌≤◌, List, [], ◌∷◌, Option, None, Some, refl}
use Rattle.std.proofs.Common.{sym, ◌∙◌, ap, subst, arith, length, map, reverse, take, slice_index_or}
use Rattle.std.proofs.lemmas.List.{take_more, map_push, reverse-append}
use Rattle.sv_model.specs.declared.line.Line.{Line}
use Rattle.sv_model.specs.declared.line.Trace.{Trace}
use Rattle.sv_model.specs.declared.refusal.Cause.{Cause}
use Rattle.sv_model.specs.Lawful.{IsLawful}
use Rattle.sv_trace.specs.Reading.{line_cause, line_of}
use Rattle.sv_rules.specs.Causes.{rule_cause}
use Rattle.sv_rules.specs.First.{or_else}
use Rattle.sv_rules.specs.Laws.{NoneIsRefused}
use Rattle.sv_rules.specs.Taken.{taken_of}
use Rattle.sv_rules.proofs.Whole.{trace_lawful}
use Rattle.sv_rules.specs.Outcome.{taken_from, cause_at, NoneBefore, IsTraceOf}
use Rattle.sv_trace.proofs.FormedLines.{line_formed}

no_else : (a b : Option Cause) → or_else a b ≡ None → (a ≡ None) × (b ≡ None)
no_else None b e = (refl, e)
no_else (Some c) b e = absurd (let h : Some c ≡ None = e in cc)

-- the first lines of a text, the newest first
abbrev pub first_lines : List (List ℕ) → ℕ → List Line
first_lines lines n = reverse (map line_of (take n lines))

one_more : (lines : List (List ℕ)) (n : ℕ) → n < length lines → first_lines lines (n + 1)
    ≡ line_of (slice_index_or lines n []) ∷ first_lines lines n
one_more lines n lt =
    ap (λ ls. reverse (map line_of ls)) (take_more lines n [] lt)
    ∙ ap reverse (map_push line_of (take n lines) (slice_index_or lines n []))
    ∙ reverse-append (map line_of (take n lines)) (line_of (slice_index_or lines n []) ∷ [])

good_line : (lines : List (List ℕ)) (n : ℕ) → cause_at lines n ≡ None
    → (line_cause (slice_index_or lines n []) ≡ None)
    × (rule_cause (taken_of (first_lines lines n)) (line_of (slice_index_or lines n [])) ≡ None)
unfolding cause_at taken_from
good_line lines n e = no_else (line_cause (slice_index_or lines n []))
    (rule_cause (taken_of (first_lines lines n)) (line_of (slice_index_or lines n []))) e

none_refused : (lines : List (List ℕ)) → NoneBefore lines (length lines) → (n : ℕ) → n ≤ length lines
    → NoneIsRefused (first_lines lines n)
none_refused lines good zero le = tt
none_refused lines good (suc n) le =
    let lt : n < length lines = le in
    let here = good_line lines n (good n le) in
    subst (λ k. NoneIsRefused (first_lines lines k)) (let e : n + 1 ≡ suc n = omega arith in e)
    (subst NoneIsRefused (sym (one_more lines n le)) (
      here.1,
      line_formed (slice_index_or lines n []) here.0,
      none_refused lines good n (omega (arith, le)),
    ))

all_lines : (lines : List (List ℕ)) → take (length lines) lines ≡ lines
all_lines [] = refl
all_lines (x ∷ xs) = ap (λ ys. x ∷ ys) (all_lines xs)

pub text_lawful : (lines : List (List ℕ)) (t : Trace) → IsTraceOf lines t → IsLawful t
unfolding taken_from
text_lawful lines t h = subst IsLawful (sym h.made)
    (trace_lawful (reverse (map line_of lines))
    (subst (λ ls. NoneIsRefused (reverse (map line_of ls))) (all_lines lines)
    (none_refused lines h.good (length lines) (omega arith)))
    h.closed)
