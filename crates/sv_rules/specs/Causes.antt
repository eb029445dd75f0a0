-- Why a line is refused after the lines before it: the refusals 5 to 14, of which the least counts.
use Rattle.std.specs.Prelude.{◌≡◌, ℕ, [], ◌∷◌, Option, Some, None, Result, Ok, Err, ⊤}
use Rattle.sv_model.specs.declared.line.Line.{Line}
use Rattle.sv_model.specs.declared.refusal.Cause.{Cause}
use Rattle.sv_model.specs.declared.refusal.Cause.TheVariants.{Undeclared, DeclaredTwice, OutOfResource}
use Rattle.sv_model.specs.declared.refusal.Cause.TheVariants.{Empty, AccessWithoutStage, WrongPlace}
use Rattle.sv_model.specs.declared.refusal.Cause.TheVariants.{NoSelfDependency, QueueOfAnotherLane}
use Rattle.sv_model.specs.declared.refusal.Cause.TheVariants.{SemaphoreKind}
use Rattle.sv_model.specs.declared.refusal.Fault.{Fault}
use Rattle.sv_model.specs.declared.refusal.Fault.TheVariants.{Refused, Memory}
use Rattle.sv_rules.specs.First.{first_cause, or_else}
use Rattle.sv_rules.specs.Taken.{Taken, taken_with}
use Rattle.sv_rules.specs.Named.{is_undeclared, is_declared_twice}
use Rattle.sv_rules.specs.PartRules.{is_out_of_resource, is_empty}
use Rattle.sv_rules.specs.Masks.{is_without_stage}
use Rattle.sv_rules.specs.Places.{is_misplaced}
use Rattle.sv_rules.specs.SelfDependencies.{is_without_self_dependency}
use Rattle.sv_rules.specs.Calls.{is_of_another_lane, is_of_wrong_kind}
use Rattle.sv_rules.specs.Limits.{passed_limit}

-- the sentences in the order of their numbers, without the limits
unfoldable pub broken_rule : Taken → Line → Option Cause
broken_rule s line = first_cause
    ((is_undeclared s.trace line, Undeclared)
    ∷ (is_declared_twice s.trace line, DeclaredTwice)
    ∷ (is_out_of_resource s.trace line, OutOfResource)
    ∷ (is_empty line, Empty)
    ∷ (is_without_stage line, AccessWithoutStage)
    ∷ (is_misplaced s line, WrongPlace)
    ∷ (is_without_self_dependency s.trace line, NoSelfDependency)
    ∷ (is_of_another_lane s.trace line, QueueOfAnotherLane)
    ∷ (is_of_wrong_kind s.trace line, SemaphoreKind)
    ∷ [])

-- the least of all
unfoldable pub rule_cause : Taken → Line → Option Cause
rule_cause s line = or_else (broken_rule s line) (passed_limit s line)

-- The line is taken where it has no cause; else nothing changes.
abbrev pub Takes : Taken → Line → ℕ → Taken → Result ⊤ Fault → Type 0
Takes old line number new (Ok u) = (rule_cause old line ≡ None) × (new ≡ taken_with old line)
Takes old line number new (Err (Refused refusal)) = (rule_cause old line ≡ Some refusal.cause)
    × (refusal.line ≡ number) × (new ≡ old)
Takes old line number new (Err Memory) = new ≡ old
