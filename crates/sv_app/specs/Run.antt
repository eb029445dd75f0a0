-- What a run has done, by the status with which it ends.
use Rattle.std.specs.Prelude.{◌≡◌, ℕ, ◌+◌, ◌≤◌, Bool, true, List, Option, Some, IfSome, length, take, ⊤}
use Rattle.std.specs.Io.KnownBytes.{Appends, IsAtEnd}
use Rattle.sv_words.specs.declared.ask.Ask.{Ask}
use Rattle.sv_words.specs.declared.ask.Ask.TheVariants.{Check, Replay}
use Rattle.sv_app.specs.declared.status.Status.{Status}
use Rattle.sv_app.specs.declared.status.Status.TheVariants.{Clean, Found, Refused, Usage, ReadFault}
use Rattle.sv_app.specs.declared.status.Status.TheVariants.{WriteFault, Memory, TooLong}

-- the status of a run that wrote its whole answer
abbrev pub IsAnswered : Status → Type 0
IsAnswered Clean = ⊤
IsAnswered Found = ⊤
IsAnswered Refused = ⊤
IsAnswered Usage = ⊥
IsAnswered ReadFault = ⊥
IsAnswered WriteFault = ⊥
IsAnswered Memory = ⊥
IsAnswered TooLong = ⊥

-- the status of a run that wrote nothing
abbrev pub IsSilent : Status → Type 0
IsSilent Clean = ⊥
IsSilent Found = ⊥
IsSilent Refused = ⊥
IsSilent Usage = ⊤
IsSilent ReadFault = ⊤
IsSilent WriteFault = ⊥
IsSilent Memory = ⊤
IsSilent TooLong = ⊤

-- the status of a run that wrote its whole answer, or found no memory for it
abbrev pub IsAnsweredOrMemory : Status → Type 0
IsAnsweredOrMemory Clean = ⊤
IsAnsweredOrMemory Found = ⊤
IsAnsweredOrMemory Refused = ⊤
IsAnsweredOrMemory Usage = ⊥
IsAnsweredOrMemory ReadFault = ⊥
IsAnsweredOrMemory WriteFault = ⊥
IsAnsweredOrMemory Memory = ⊤
IsAnsweredOrMemory TooLong = ⊥

-- the bytes are all that the source had left, and it came to its end
pub record GaveAll {S : Type 0} (left_of : S → Option (List ℕ)) (given_by : S → ℕ) (is_at_end : S → Bool)
    (bytes : List ℕ) (old new : S)
    : Type 0 where
  pub all : IfSome (left_of old) (λ left. left ≡ bytes)
  pub nothing_left : IsAtEnd (left_of new)
  pub given : given_by new ≡ given_by old + length bytes
  pub ended : is_at_end new ≡ true

-- `check` and `replay` ask about the bytes of the source, and what else is asked for reads nothing
abbrev pub IsInput : {S : Type 0} → (S → Option (List ℕ)) → (S → ℕ) → (S → Bool) → Option Ask
    → (bytes : List ℕ) (old new : S) → Type 0
IsInput left_of given_by is_at_end (Some Check) bytes old new =
    GaveAll left_of given_by is_at_end bytes old new
IsInput left_of given_by is_at_end (Some Replay) bytes old new =
    GaveAll left_of given_by is_at_end bytes old new
IsInput left_of given_by is_at_end other bytes old new = new ≡ old

-- a first part of the text, maybe all of it, was written
abbrev pub AppendsPart : Option (List ℕ) → Option (List ℕ) → List ℕ → Type 0
AppendsPart old new text = (n : ℕ) × (n ≤ length text) × Appends old new (take n text)
