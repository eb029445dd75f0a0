-- What the processed items left: counts of instances and tokens, signals, waits, events and fences.
use Rattle.std.specs.Prelude.{ℕ, List, [], Option, ◌-◌, Bool}
use Rattle.sv_model.specs.declared.work.Group.{Group}

-- A processed signal that had effect, with its token.
pub record Signal : Type 0 where
  pub sem : ℕ
  pub value : Option ℕ
  pub token : ℕ

-- A set that had effect: its queue, the groups of its elements, and the first of its tokens.
pub record InForce : Type 0 where
  pub queue : ℕ
  pub groups : List Group
  pub token : ℕ

-- A set of an event that had effect, or a reset of it.
pub record EventChange : Type 0 where
  pub event : ℕ
  pub set : Option InForce

-- A fence signal with its token, or a reset.
pub record FenceChange : Type 0 where
  pub fence : ℕ
  pub token : Option ℕ

-- Instances and tokens are counted. Events and fences stand with the latest first, signals and waits with
-- the earliest.
pub record Made : Type 0 where
  pub instances : ℕ
  pub tokens : ℕ
  pub signals : List Signal
  pub waits : List ℕ
  pub events : List EventChange
  pub fences : List FenceChange

abbrev pub nothing_made : Made
nothing_made = record { instances = 0; tokens = 0; signals = []; waits = []; events = []; fences = [] }

-- What was processed, as far as an item can ask for it.
pub record Past : Type 0 where
  -- whether a timeline semaphore serves a wait for the value
  pub serves : ℕ → ℕ → Bool
  -- how many signals of a binary semaphore stand
  pub standing : ℕ → ℕ
  pub signaled : ℕ → Bool
