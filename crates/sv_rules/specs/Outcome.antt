-- What a text comes to: its trace, or its least bad line.
use Rattle.std.specs.Prelude.{◌≡◌, ℕ, ◌+◌, ◌<◌, ◌⊎◌, true, false, List, [], Option, Some, None, Result, Ok}
use Rattle.std.specs.Prelude.{Err, length, map, reverse, slice_index_or, take}
use Rattle.sv_model.specs.declared.line.Trace.{Trace}
use Rattle.sv_model.specs.declared.refusal.Cause.{Cause}
use Rattle.sv_model.specs.declared.refusal.Cause.TheVariants.{Unfinished}
use Rattle.sv_model.specs.declared.refusal.Refusal.{Refusal}
use Rattle.sv_trace.specs.Text.{lines_of}
use Rattle.sv_trace.specs.Reading.{line_cause, line_of}
use Rattle.sv_rules.specs.First.{or_else}
use Rattle.sv_rules.specs.Taken.{Taken, taken_of}
use Rattle.sv_rules.specs.Causes.{rule_cause}
use Rattle.sv_rules.specs.Ends.{is_unfinished}

-- what these lines of a text come to
unfoldable pub taken_from : List (List ℕ) → Taken
taken_from lines = taken_of (reverse (map line_of lines))

-- why a line is refused after others: for its own form, or else for what they say
abbrev pub cause_after : Taken → List ℕ → Option Cause
cause_after s bytes = or_else (line_cause bytes) (rule_cause s (line_of bytes))

-- why the line at this place of the text is refused, read from the lines before it; places count from 0
unfoldable pub cause_at : List (List ℕ) → ℕ → Option Cause
cause_at lines place = cause_after (taken_from (take place lines)) (slice_index_or lines place [])

-- no line before this place is refused
abbrev pub NoneBefore : List (List ℕ) → ℕ → Type 0
NoneBefore lines place = (earlier : ℕ) → earlier < place → cause_at lines earlier ≡ None

-- the least line that is refused, and why
pub record IsLeastBad (lines : List (List ℕ)) (refusal : Refusal) : Type 0 where
  pub place : ℕ
  pub inside : place < length lines
  pub number : refusal.line ≡ place + 1
  pub cause : cause_at lines place ≡ Some refusal.cause
  pub least : NoneBefore lines place

-- no line is refused, and a recording is open at the end: this counts as one more line
pub record IsLeftOpen (lines : List (List ℕ)) (refusal : Refusal) : Type 0 where
  pub good : NoneBefore lines (length lines)
  pub left : is_unfinished (taken_from lines).trace ≡ true
  pub number : refusal.line ≡ length lines + 1
  pub cause : refusal.cause ≡ Unfinished

-- no line is refused, no recording is open at the end, and this is the trace that the lines make
pub record IsTraceOf (lines : List (List ℕ)) (t : Trace) : Type 0 where
  pub good : NoneBefore lines (length lines)
  pub closed : is_unfinished (taken_from lines).trace ≡ false
  pub made : t ≡ (taken_from lines).trace

-- what a text of these lines comes to
abbrev pub IsOutcome : List (List ℕ) → Result Trace Refusal → Type 0
IsOutcome lines (Ok t) = IsTraceOf lines t
IsOutcome lines (Err refusal) = IsLeastBad lines refusal ⊎ IsLeftOpen lines refusal

-- the trace of a text, or its refusal
abbrev pub IsOutcomeOf : List ℕ → Result Trace Refusal → Type 0
IsOutcomeOf text outcome = IsOutcome (lines_of text) outcome
