-- What runs in a batch: published recordings, and waits and signals that find what they ask for.
use Rattle.std.specs.Prelude.{ℕ, ◌≡◌, ◌<◌, List, [], ◌∷◌, ◌++◌, true, None, Some, MatchOption, IfSome}
use Rattle.std.specs.Prelude.{IsTrue, fold, is_some, length, slice_index_or, take}
use Rattle.std.specs.BTreeMap.{get}
use Rattle.std.specs.List.{All, enumerate_from}
use Rattle.std.specs.Ordering.{nat_cmp}
use Rattle.sv_mask.specs.Scopes.{second_sync, usages_at}
use Rattle.sv_model.specs.Binding.{instances_of, rec_given, rec_made, bound, step_made}
use Rattle.sv_model.specs.Places.{Bound}
use Rattle.sv_model.specs.Recordings.{compile}
use Rattle.sv_model.specs.Declarations.{semaphore_kind}
use Rattle.sv_model.specs.Holding.{is_published}
use Rattle.sv_model.specs.Lists.{gather}
use Rattle.sv_model.specs.Primitives.{Made}
use Rattle.sv_model.specs.Semaphores.{binary_pair, signaled, waited}
use Rattle.sv_model.specs.QueueGroups.{from_token, place_in}
use Rattle.sv_model.specs.Work.{numbered}
use Rattle.sv_model.specs.declared.line.Mark.{Mark}
use Rattle.sv_model.specs.declared.line.SemKind.TheVariants.{Binary}
use Rattle.sv_model.specs.declared.line.SemaphoreUse.{SemaphoreUse}
use Rattle.sv_model.specs.declared.line.Trace.{Trace}
use Rattle.sv_model.specs.declared.work.Group.{Group}
use Rattle.sv_model.specs.declared.work.Step.{Step}
use Rattle.sv_binding.specs.Runs.{run_for}
use Rattle.sv_binding.specs.declared.run.Run.{Run}
use Rattle.sv_step_laws.specs.Steps.{IsStepOf}
use Rattle.sv_sema.specs.Stands.{IsUseOf}
use Rattle.sv_sema.specs.declared.semaphores.Pairing.{Pairing}
use Rattle.sv_sema.specs.declared.semaphores.Pairing.TheVariants.{Initial, Token, NotYet}
use Rattle.sv_processed.specs.Works.{IsAt, WorkFits}
use Rattle.sv_processed.specs.declared.work.Work.{Work}
use Rattle.sv_batch.specs.Begun.{AreInstancesOf}
use Rattle.sv_batch.specs.declared.recordings.Published.{Published}
use Rattle.sv_batch.specs.declared.recordings.Recordings.{Recordings}

-- Recordings.

-- the lowering of a recording, and the number of its instances
pub record IsPublication (t : Trace) (k : ℕ) (x : Published) : Type 0 where
  pub steps : x.steps ≡ compile t k
  pub instances : x.instances ≡ instances_of t k

-- each is a recording of the trace
abbrev pub AreOf : Trace → Recordings → Type 0
AreOf t r = (k : ℕ) → IfSome (get nat_cmp r.published k) (IsPublication t k)

-- the recording is there
abbrev pub IsThere : Trace → Recordings → ℕ → Type 0
IsThere t r k = MatchOption (get nat_cmp r.published k) ⊥ (IsPublication t k)

-- the recordings that the events published are there, by their numbers, and each is a recording of the trace,
-- whose instances are known
pub record ArePublished (t : Trace) (events : List Mark) (r : Recordings) : Type 0 where
  pub instances : AreInstancesOf t r.instances
  pub each : AreOf t r
  pub all : (k : ℕ) → IsTrue (is_published events k) → IsThere t r k

-- the steps lie inside the resources of some trace, which the work fits
pub record MayTakeSteps (w : Work) (list : List Step) : Type 0 where
  pub trace : Trace
  pub fits : WorkFits trace w
  pub steps : All (IsStepOf trace) list

-- the recordings are of some trace, which the work fits
pub record MayRun (w : Work) (r : Recordings) : Type 0 where
  pub trace : Trace
  pub fits : WorkFits trace w
  pub recordings : AreOf trace r

-- the bound steps of a recording that runs there, one after another
abbrev pub are_steps_after : Run → List Step → Work → Work → Type 0
are_steps_after r steps before after = (t : Trace) (event : ℕ) (old more : List Bound) (m : Made)
    → IsAt t event old more m before
    → IsAt t event old (more ++ numbered (length (old ++ more))
    (gather (step_made (run_for event r)) (bound (run_for event r)) m steps))
    (fold (step_made (run_for event r)) m steps) after

-- a recording in the slot of the run
abbrev pub is_recording_after : Run → ℕ → Trace → Work → Work → Type 0
is_recording_after r k t before after = (event : ℕ) (old more : List Bound) (m : Made)
    → IsAt t event old more m before
    → IsAt t event old (more ++ numbered (length (old ++ more))
    (rec_given t (run_for event r) m (r.slot, k))) (rec_made t (run_for event r) m (r.slot, k)) after

-- recordings, each in its slot
abbrev pub are_recordings_after : Run → List ℕ → Trace → Work → Work → Type 0
are_recordings_after r recs t before after = (event : ℕ) (old more : List Bound) (m : Made)
    → IsAt t event old more m before
    → IsAt t event old (more ++ numbered (length (old ++ more))
    (gather (rec_made t (run_for event r)) (rec_given t (run_for event r)) m (enumerate_from 0 recs)))
    (fold (rec_made t (run_for event r)) m (enumerate_from 0 recs)) after

-- Waits and signals.

-- a wait for a binary semaphore finds a signal
abbrev pub FindsSignal : Trace → Made → SemaphoreUse → Type 0
FindsSignal t m u = semaphore_kind t u.sem ≡ Some Binary → is_some (binary_pair m u.sem) ≡ true

-- a signal of a binary semaphore finds it free
abbrev pub FindsRoom : Trace → Made → SemaphoreUse → Type 0
FindsRoom t m u = semaphore_kind t u.sem ≡ Some Binary → binary_pair m u.sem ≡ None

-- each use has a value where its semaphore is a timeline, and each wait finds a signal after those before it
pub record AreWaitsReady (t : Trace) (m : Made) (waits : List SemaphoreUse) : Type 0 where
  pub uses : (i : ℕ) (d : SemaphoreUse) → i < length waits
      → IsUseOf t (slice_index_or waits i d).sem (slice_index_or waits i d).value
  pub found : (i : ℕ) (d : SemaphoreUse) → i < length waits
      → FindsSignal t (fold waited m (take i waits)) (slice_index_or waits i d)

-- and each signal finds room after those before it
pub record AreSignalsReady (t : Trace) (m : Made) (signals : List SemaphoreUse) : Type 0 where
  pub uses : (i : ℕ) (d : SemaphoreUse) → i < length signals
      → IsUseOf t (slice_index_or signals i d).sem (slice_index_or signals i d).value
  pub room : (i : ℕ) (d : SemaphoreUse) → i < length signals
      → FindsRoom t (fold (signaled t) m (take i signals)) (slice_index_or signals i d)

-- the group of a wait from the token that it is paired with, if there is one
abbrev pub pairing_groups : Run → SemaphoreUse → Pairing → List Group
pairing_groups r w (Token token) = from_token (place_in (run_for 0 r)) token r.queue (second_sync w.stages)
    (usages_at w.stages) ∷ []
pairing_groups r w Initial = []
pairing_groups r w NotYet = []
