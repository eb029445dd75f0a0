-- What holds of a batch that is taken: each wait for a binary semaphore finds a signal, and each signal of
-- one finds it free ("Semaphore Waiting", "Semaphore Signaling").
use Rattle.std.specs.Prelude.{ℕ, ◌≡◌, ◌<◌, List, true, Some, None, fold, is_some, length, slice_index_or}
use Rattle.std.specs.Prelude.{take}
use Rattle.sv_model.specs.declared.line.Trace.{Trace}
use Rattle.sv_model.specs.declared.line.Batch.{Batch}
use Rattle.sv_model.specs.declared.line.SemKind.TheVariants.{Binary}
use Rattle.sv_model.specs.declared.line.SemaphoreUse.{SemaphoreUse}
use Rattle.sv_model.specs.declared.work.Item.TheVariants as item
use Rattle.sv_model.specs.declared.work.Taken.{Taken}
use Rattle.sv_model.specs.Batches.{batch_made, recs_made}
use Rattle.sv_model.specs.Semaphores.{waits_made, batch_ready, binary_pair, signaled, waited}
use Rattle.sv_model.specs.Places.{Run}
use Rattle.sv_model.specs.Declarations.{semaphore_kind}
use Rattle.sv_model.specs.Holding.{past, Holding, items_of, next}
use Rattle.sv_model.specs.History.{batch_at}
use Rattle.sv_model.specs.Lawful.{IsLawful}
use Rattle.sv_model.specs.Laws.{left_by_items}
use Rattle.sv_model.specs.Primitives.{Made}
use Rattle.sv_sema.specs.declared.semaphores.Semaphores.{Semaphores}
use Rattle.sv_sema.specs.Stands.{SemaphoresStandFor}
use Rattle.sv_fence.specs.declared.fences.Fences.{Fences}
use Rattle.sv_fence.specs.Stands.{FencesStandFor}
use Rattle.sv_gate.specs.Kept.{IsBatchOf, past_of}

-- in a lawful trace a batch that is taken may run by what the items left
abbrev pub TakenBatchesAreReady : Type 0
TakenBatchesAreReady = (t : Trace) (h : Holding) (items : List Taken) (queue event batch : ℕ)
    (rest : Holding) → IsLawful t → next t (past t h.events (items_of items)) h
    ≡ Some (item.Batch queue event batch, rest)
    → batch_ready (past_of t (left_by_items t h.events items)) (batch_at t h.events event batch) ≡ true

-- in a batch that may run each wait for a binary semaphore finds a signal, after the waits before it
abbrev pub ReadyWaitsFindSignals : Type 0
ReadyWaitsFindSignals = (t : Trace) (m : Made) (b : Batch) (i : ℕ) (d : SemaphoreUse) → IsBatchOf t b
    → batch_ready (past_of t m) b ≡ true → i < length b.waits
    → semaphore_kind t (slice_index_or b.waits i d).sem
    ≡ Some Binary
    → is_some (binary_pair (fold waited m (take i b.waits)) (slice_index_or b.waits i d).sem) ≡ true

-- and each signal of a binary semaphore finds it free, after the waits, the recordings and the signals
-- before it
abbrev pub ReadySignalsFindRoom : Type 0
ReadySignalsFindRoom = (t : Trace) (r : Run) (m : Made) (b : Batch) (i : ℕ) (d : SemaphoreUse)
    → IsBatchOf t b → batch_ready (past_of t m) b ≡ true → i < length b.signals
    → semaphore_kind t (slice_index_or b.signals i d).sem ≡ Some Binary
    → binary_pair (fold (signaled t) (recs_made t r m b) (take i b.signals))
    (slice_index_or b.signals i d).sem ≡ None

-- What a part of a batch leaves as it was.
pub record IsKept (t : Trace) (r : Run) (m : Made) (b : Batch) : Type 0 where
  -- recordings signal nothing and wait for nothing
  pub signals : (recs_made t r m b).signals ≡ m.signals
  pub waits : (recs_made t r m b).waits ≡ (waits_made m b).waits
  -- a batch changes no fence
  pub fences : (batch_made t r m b).fences ≡ m.fences

abbrev pub BatchesKeep : Type 0
BatchesKeep = (t : Trace) (r : Run) (m : Made) (b : Batch) → IsKept t r m b

-- semaphores stand where signals and waits are as before
abbrev pub SemaphoresStay : Type 0
SemaphoresStay = (t : Trace) (m n : Made) (semaphores : Semaphores) → n.signals ≡ m.signals → n.waits
    ≡ m.waits → SemaphoresStandFor t m semaphores → SemaphoresStandFor t n semaphores

-- fences stand where theirs are as before
abbrev pub FencesStay : Type 0
FencesStay = (t : Trace) (m n : Made) (fences : Fences) → n.fences ≡ m.fences → FencesStandFor t m fences
    → FencesStandFor t n fences
