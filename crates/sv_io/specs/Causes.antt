-- What an answer of a source or a sink tells of its count of faults, and what has gone by.
use Rattle.std.specs.Prelude.{◌≡◌, ℕ, ◌+◌, ◌-◌, ◌^◌, ◌≤◌, min, Bool, false, ◌==◌, Result, OnOk, OnErr}

-- the count rose, or stands at its last value
abbrev pub Rose : ℕ → ℕ → Type 0
Rose before now = min (before + 1) (2 ^ 64 - 1) ≤ now

-- the count never falls, tells each fault, and stands where there was none
pub record HasCause {T E : Type 0} (before now : ℕ) (result : Result T E) : Type 0 where
  pub later : before ≤ now
  pub failed : OnErr result (Rose before now)
  pub kept : OnOk result (now ≡ before)

-- the answer was the end
abbrev pub is_end : {E : Type 0} → Result ℕ E → Bool
is_end (Result.Ok n) = n == 0
is_end (Result.Err e) = false

-- how many bytes an answer gave
abbrev pub count_of : {E : Type 0} → Result ℕ E → ℕ
count_of (Result.Ok n) = n
count_of (Result.Err e) = 0
