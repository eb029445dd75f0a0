-- The queues and semaphores of calls ("Queue Submission", "Semaphores").
use Rattle.std.specs.Prelude.{ℕ, Bool, false, not, ◌||◌, ◌==◌, Option, Some, None, is_none, is_some}
use Rattle.std.specs.List.{list_any}
use Rattle.sv_model.specs.declared.line.Line.{Line}
use Rattle.sv_model.specs.declared.line.Line.TheVariants as line
use Rattle.sv_model.specs.declared.line.Batch.{Batch}
use Rattle.sv_model.specs.declared.line.SemKind.{SemKind}
use Rattle.sv_model.specs.declared.line.SemKind.TheVariants.{Binary, Timeline}
use Rattle.sv_model.specs.declared.line.SemaphoreUse.{SemaphoreUse}
use Rattle.sv_model.specs.declared.line.Trace.{Trace}
use Rattle.sv_rules.specs.Taken.{kind_in, lane_of_queue}

abbrev pub is_another : ℕ → Option ℕ → Bool
is_another lane None = false
is_another lane (Some own) = not (own == lane)

-- the queue is declared, and for another lane
abbrev pub is_queue_of_other : Trace → ℕ → ℕ → Bool
is_queue_of_other t lane queue = is_another lane (lane_of_queue t queue)

-- A `submit` or `wait_queue` comes by a lane that is not the queue's.
unfoldable pub is_of_another_lane : Trace → Line → Bool
is_of_another_lane t (line.Submit lane queue batches fence) = is_queue_of_other t lane queue
is_of_another_lane t (line.WaitQueue lane queue) = is_queue_of_other t lane queue
is_of_another_lane t other = false

-- a timeline wait or signal has no value, or a binary one has
abbrev pub has_wrong_value : Option SemKind → Option ℕ → Bool
has_wrong_value (Some Timeline) value = is_none value
has_wrong_value (Some Binary) value = is_some value
has_wrong_value None value = false

abbrev pub is_wrong_use : Trace → SemaphoreUse → Bool
is_wrong_use t u = has_wrong_value (kind_in t u.sem) u.value

abbrev pub batch_has_wrong_use : Trace → Batch → Bool
batch_has_wrong_use t b = list_any (is_wrong_use t) b.waits || list_any (is_wrong_use t) b.signals

abbrev pub has_wrong_initial : SemKind → Option ℕ → Bool
has_wrong_initial Binary initial = is_some initial
has_wrong_initial Timeline initial = false

-- A timeline wait or signal has no value, a binary one has, or a binary semaphore has an initial value.
unfoldable pub is_of_wrong_kind : Trace → Line → Bool
is_of_wrong_kind t (line.Semaphore sem kind initial) = has_wrong_initial kind initial
is_of_wrong_kind t (line.Submit lane queue batches fence) = list_any (batch_has_wrong_use t) batches
is_of_wrong_kind t other = false
