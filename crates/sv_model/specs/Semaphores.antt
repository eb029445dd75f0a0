-- Semaphores: the signal with which a wait is paired, when a batch is enabled by them, and the groups and
-- notes of waits and signals ("Semaphores", "Semaphore Waiting", "Semaphore Signaling").
use Rattle.std.specs.Prelude.{ℕ, ◌+◌, [], ◌∷◌, ◌++◌, Bool, true, false, ◌==◌, ◌&&◌, nat_le, nat_lt, max}
use Rattle.std.specs.Prelude.{Option, Some, None, filter, find, slice_get, count_by, unwrap_or, fold}
use Rattle.std.specs.Prelude.{if◌then◌else◌, ◌-◌, List, ◌||◌, is_none, map, option_to_list}
use Rattle.std.specs.Option.{option_map_or}
use Rattle.std.specs.List.{list_all, list_any, flat_map}
use Rattle.sv_mask.specs.Scopes.{first_sync, second_sync, usages_at, names_all, with_signal}
use Rattle.sv_mask.specs.declared.stage.Stages.{Stages}
use Rattle.sv_mask.specs.declared.stage.StageWord.{StageWord}
use Rattle.sv_model.specs.declared.line.Trace.{Trace}
use Rattle.sv_model.specs.declared.line.SemaphoreUse.{SemaphoreUse}
use Rattle.sv_model.specs.declared.line.Batch.{Batch}
use Rattle.sv_model.specs.declared.work.Group.{Group}
use Rattle.sv_model.specs.declared.work.Step.TheVariants.{Groups}
use Rattle.sv_model.specs.declared.work.Note.{Note}
use Rattle.sv_model.specs.Declarations.{initial_value}
use Rattle.sv_model.specs.Primitives.{Signal, Made, Past}
use Rattle.sv_model.specs.Lists.{gather}
use Rattle.sv_model.specs.Places.{Bound, Run}
use Rattle.sv_model.specs.QueueGroups.{place_in, from_token, to_token}
use Rattle.sv_model.specs.declared.work.Note.TheVariants as note

-- a signal of the semaphore with at least that value
abbrev pub serves : ℕ → ℕ → Signal → Bool
serves sem value x = x.sem == sem && option_map_or (nat_le value) x.value false

-- the k-th signal of a binary semaphore for its k-th wait
abbrev pub binary_pair : Made → ℕ → Option Signal
binary_pair m sem = slice_get (filter (λ (x : Signal). x.sem == sem) m.signals)
    (count_by (λ (w : ℕ). w == sem) m.waits)

-- the first signal of at least the value, unless the initial value serves
abbrev pub timeline_pair : Trace → Made → ℕ → ℕ → Option Signal
timeline_pair t m sem value = if nat_le value (initial_value t sem) then None else find
    (serves sem value) m.signals

abbrev pub pair_for : Trace → Made → ℕ → Option ℕ → Option Signal
pair_for t m sem None = binary_pair m sem
pair_for t m sem (Some value) = timeline_pair t m sem value

-- the signal with which a wait is paired
abbrev pub paired : Trace → Made → SemaphoreUse → Option Signal
paired t m w = pair_for t m w.sem w.value

abbrev pub waited : Made → SemaphoreUse → Made
waited m w = record m { waits = m.waits ++ w.sem ∷ [] }

-- the greatest of the initial value and the signals so far
abbrev pub current_value : Trace → Made → ℕ → ℕ
current_value t m sem = fold (λ (n : ℕ) (x : Signal). if x.sem == sem then max n
    (unwrap_or x.value 0) else n) (initial_value t sem) m.signals

-- a binary signal has effect, a timeline signal where its value is above the current one
abbrev pub raises : Trace → Made → SemaphoreUse → Bool
raises t m x = option_map_or (nat_lt (current_value t m x.sem)) x.value true

abbrev pub signaled : Trace → Made → SemaphoreUse → Made
signaled t m x = if raises t m x then record m {
  signals = m.signals
      ++ record { sem = x.sem; value = x.value; token = m.tokens } ∷ [];
  tokens = m.tokens + 1;
} else m

abbrev pub is_binary_use : ℕ → SemaphoreUse → Bool
is_binary_use sem u = u.sem == sem && is_none u.value

-- a signal of the timeline semaphore with at least that value
abbrev pub reaches : ℕ → ℕ → SemaphoreUse → Bool
reaches sem value u = u.sem == sem && option_map_or (nat_le value) u.value false

-- the initial value serves, or a processed signal
abbrev pub served : Trace → List Batch → ℕ → ℕ → Bool
served t batches sem value = nat_le value (initial_value t sem)
    || list_any (reaches sem value) (flat_map (λ (b : Batch). b.signals) batches)

-- the processed signals less the processed waits
abbrev pub signals_standing : List Batch → ℕ → ℕ
signals_standing batches sem = count_by (is_binary_use sem) (flat_map (λ (b : Batch). b.signals) batches)
    - count_by (is_binary_use sem) (flat_map (λ (b : Batch). b.waits) batches)

abbrev pub wait_served : Past → SemaphoreUse → Bool
wait_served p u = option_map_or (p.serves u.sem) u.value true

-- with b signals standing, w waits find one each, and s signals find the semaphore free
abbrev pub is_balanced : ℕ → ℕ → ℕ → Bool
is_balanced b w s = nat_le w b && nat_le ((b - w) + s) 1

abbrev pub use_fits : Past → Batch → SemaphoreUse → Bool
use_fits p b u = if is_none u.value then is_balanced (p.standing u.sem)
    (count_by (is_binary_use u.sem) b.waits) (count_by (is_binary_use u.sem) b.signals) else true

abbrev pub batch_ready : Past → Batch → Bool
batch_ready p b = list_all (wait_served p) b.waits && list_all (use_fits p b) b.waits && list_all
    (use_fits p b) b.signals

abbrev pub wait_given : Trace → Run → Made → SemaphoreUse → List Group
wait_given t r m w = map (λ (x : Signal). from_token (place_in r) x.token r.queue (second_sync w.stages)
    (usages_at w.stages)) (option_to_list (paired t m w))

-- a mask that names all that all_commands names covers layout transitions too
abbrev pub signal_scope : StageWord → Stages
signal_scope w = if names_all w then with_signal (first_sync w) else first_sync w

abbrev pub signal_given : Trace → Run → Made → SemaphoreUse → List Group
signal_given t r m x = if raises t m x then to_token (place_in r) r.queue (signal_scope x.stages)
    (usages_at x.stages) m.tokens ∷ [] else []

-- a signal that does not raise its timeline gives a note
abbrev pub timeline_notes : Trace → Run → Made → SemaphoreUse → List Note
timeline_notes t r m x = if raises t m x then [] else note.Timeline
    (record {
      sem = x.sem;
      event = r.event;
      batch = r.batch;
      value = unwrap_or x.value 0;
      current = current_value t m x.sem;
      reports_before = 0;
    }) ∷ []

abbrev pub waits_made : Made → Batch → Made
waits_made m b = fold waited m b.waits

abbrev pub waits_step : Trace → Run → Made → Batch → Bound
waits_step t r m b = record {
  step = Groups (gather waited (wait_given t r) m b.waits);
  event = r.released;
  notes = [];
}

abbrev pub signals_step : Trace → Run → Made → Batch → Bound
signals_step t r m b = record {
  step = Groups (gather (signaled t) (signal_given t r) m b.signals);
  event = r.released;
  notes = gather (signaled t) (timeline_notes t r) m b.signals;
}
