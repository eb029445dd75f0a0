-- What the processed items left, and what is counted over them.
use Rattle.std.specs.Prelude.{ℕ, ◌≡◌, ◌==◌, ◌||◌, List, None, All, find, filter, count_by, is_some, length}
use Rattle.std.specs.Prelude.{nat_le}
use Rattle.std.specs.List.{flat_map}
use Rattle.sv_model.specs.declared.line.Trace.{Trace}
use Rattle.sv_model.specs.declared.line.Mark.{Mark}
use Rattle.sv_model.specs.declared.line.Batch.{Batch}
use Rattle.sv_model.specs.declared.line.SemaphoreUse.{SemaphoreUse}
use Rattle.sv_model.specs.declared.work.Taken.{Taken}
use Rattle.sv_model.specs.Declarations.{initial_value}
use Rattle.sv_model.specs.Primitives.{Made, Signal}
use Rattle.sv_model.specs.Semaphores.{serves, current_value, served, is_binary_use, batch_ready}
use Rattle.sv_model.specs.Fences.{fence_state, has_signal, is_signaled}
use Rattle.sv_model.specs.Holding.{batches_done, past, items_of}
use Rattle.sv_model.specs.Laws.{left_by_items}
use Rattle.sv_gate.specs.Kept.{past_of}

-- a fence is signalled exactly where its state has a signal
abbrev pub FencesAgree : Type 0
FencesAgree = (t : Trace) (history : List Mark) (items : List Taken) (fence : ℕ)
    → is_signaled t (items_of items) fence ≡ has_signal
    (fence_state t (left_by_items t history items) fence)

-- a timeline serves a value exactly where its current value is not below it
abbrev pub TimelinesAgree : Type 0
TimelinesAgree = (t : Trace) (history : List Mark) (items : List Taken) (sem value : ℕ)
    → served t (batches_done t history (items_of items)) sem value
    ≡ nat_le value (current_value t (left_by_items t history items) sem)

-- and that is so exactly where the value at first serves, or a signal that is kept
abbrev pub PairsAgree : Type 0
PairsAgree = (t : Trace) (m : Made) (sem value : ℕ) → nat_le value (current_value t m sem)
    ≡ (nat_le value (initial_value t sem) || is_some (find (serves sem value) m.signals))

-- the uses of that semaphore have no value, as those of a binary one
abbrev pub HasNoValues : ℕ → List SemaphoreUse → Type 0
HasNoValues sem uses = All (λ (u : SemaphoreUse). (u.sem == sem) ≡ is_binary_use sem u) uses

pub record IsBinaryIn (sem : ℕ) (b : Batch) : Type 0 where
  pub waits : HasNoValues sem b.waits
  pub signals : HasNoValues sem b.signals

-- what is kept of a binary semaphore's signals and waits
pub record Balance (t : Trace) (history : List Mark) (items : List Taken) (sem : ℕ) : Type 0 where
  pub signals : length (filter (λ (x : Signal). x.sem == sem) (left_by_items t history items).signals)
      ≡ count_by (is_binary_use sem) (flat_map (λ (b : Batch). b.signals)
      (batches_done t history (items_of items)))
  pub waits : count_by (λ (w : ℕ). w == sem) (left_by_items t history items).waits
      ≡ count_by (is_binary_use sem) (flat_map (λ (b : Batch). b.waits)
      (batches_done t history (items_of items)))

-- the signals and waits that are kept of a binary semaphore are those of the batches
abbrev pub BinariesAgree : Type 0
BinariesAgree = (t : Trace) (history : List Mark) (items : List Taken) (sem : ℕ)
    → All (IsBinaryIn sem) (batches_done t history (items_of items)) → Balance t history items sem

-- the uses of a binary semaphore are so in each processed batch
abbrev pub IsBinaryBefore : Trace → List Mark → List Taken → SemaphoreUse → Type 0
IsBinaryBefore t history items u = u.value ≡ None
    → All (IsBinaryIn u.sem) (batches_done t history (items_of items))

-- a batch may run, counted over the items, exactly where it may by what they left
abbrev pub BatchesAgree : Type 0
BatchesAgree = (t : Trace) (history : List Mark) (items : List Taken) (b : Batch)
    → All (IsBinaryBefore t history items) b.waits → All (IsBinaryBefore t history items) b.signals
    → batch_ready (past t history (items_of items)) b
    ≡ batch_ready (past_of t (left_by_items t history items)) b
