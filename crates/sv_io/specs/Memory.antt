-- A source and a sink in memory, whose calls follow a script.
use Rattle.std.specs.Prelude.{ℕ, ◌+◌, ◌-◌, ◌^◌, ◌<◌, min, length, Contains, ◌⊎◌, List, Bool, slice_get}
use Rattle.std.specs.Option.{option_map_or}

-- the number of the next call, the most bytes that a call takes, by its number, and the calls that fail
pub record Script : Type 0 where
  pub call : ℕ
  pub pieces : List ℕ
  pub fails : List ℕ

pub record SourceInMemory : Type 0 where
  pub left : List ℕ
  pub given : ℕ
  pub ended : Bool
  pub faults : ℕ
  pub script : Script

pub record SinkInMemory : Type 0 where
  pub written : List ℕ
  pub room : ℕ
  pub faults : ℕ
  pub script : Script

-- how many of the wanted bytes the script's next call takes
abbrev pub allowed : Script → ℕ → ℕ
allowed s wanted = option_map_or (λ size. min wanted size) (slice_get s.pieces s.call) wanted

-- the script after one more call
abbrev pub after_call : Script → Script
after_call s = record s { call = min (s.call + 1) (2 ^ 64 - 1) }

-- the sink's next call is one of those that fail, or takes it past its room
abbrev pub FailsAt : SinkInMemory → ℕ → Type 0
FailsAt s wanted = Contains s.script.fails s.script.call
    ⊎ (s.room < length s.written + allowed s.script wanted)
