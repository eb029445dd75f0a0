-- What is told of a text: what it comes to, unless memory is wanting.
use Rattle.std.specs.Prelude.{◌≡◌, ℕ, List, None, Some, Result, Ok, Err, ⊤}
use Rattle.sv_model.specs.declared.line.Trace.{Trace}
use Rattle.sv_model.specs.declared.refusal.Fault.{Fault}
use Rattle.sv_model.specs.declared.refusal.Fault.TheVariants.{Refused, Memory}
use Rattle.sv_trace.specs.Reading.{line_of}
use Rattle.sv_rules.specs.Outcome.{cause_after, IsOutcome}
use Rattle.sv_rules.specs.Taken.{Taken, taken_with}

-- The line is taken where it has no cause; else nothing changes.
abbrev pub TakesBytes : Taken → List ℕ → ℕ → Taken → Result ⊤ Fault → Type 0
TakesBytes old bytes number new (Ok u) = (cause_after old bytes ≡ None)
    × (new ≡ taken_with old (line_of bytes))
TakesBytes old bytes number new (Err (Refused refusal)) = (cause_after old bytes ≡ Some refusal.cause)
    × (refusal.line ≡ number) × (new ≡ old)
TakesBytes old bytes number new (Err Memory) = new ≡ old

abbrev pub Tells : List (List ℕ) → Result Trace Fault → Type 0
Tells lines (Ok t) = IsOutcome lines (Ok t)
Tells lines (Err (Refused refusal)) = IsOutcome lines (Err refusal)
Tells lines (Err Memory) = ⊤
