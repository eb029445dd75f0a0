-- A batch: its waits, its recordings, its signals.
use Rattle.std.proofs.Common.{ℕ, ◌≡◌, ◌++◌, List, [], ◌∷◌, length, true}
use Rattle.std.specs.List.{enumerate_from, fold}
use Rattle.std.proofs.lemmas.List.Elements.{All-get_or}
use Rattle.sv_model.specs.Batches.{batch_given, batch_made, recs_made}
use Rattle.sv_model.specs.Binding.{rec_given, rec_made}
use Rattle.sv_model.specs.Semaphores.{signal_given, signals_step, timeline_notes, wait_given, waits_made}
use Rattle.sv_model.specs.Semaphores.{waits_step, batch_ready, signaled, waited}
use Rattle.sv_model.specs.Places.{Bound}
use Rattle.sv_model.specs.Lists.{gather}
use Rattle.sv_model.specs.Primitives.{Made}
use Rattle.sv_model.specs.Work.{numbered}
use Rattle.sv_model.specs.declared.line.Batch.{Batch}
use Rattle.sv_model.specs.declared.line.SemaphoreUse.{SemaphoreUse}
use Rattle.sv_model.specs.declared.line.Trace.{Trace}
use Rattle.sv_model.specs.declared.work.Step.TheVariants.{Groups}
use Rattle.sv_binding.specs.Runs.{run_for}
use Rattle.sv_binding.specs.declared.run.Run.{Run}
use Rattle.sv_gate.specs.Kept.{IsBatchOf, past_of}
use Rattle.sv_gate.proofs.FindsSignals.{signals_find, waits_find}
use Rattle.sv_sema.specs.Stands.{IsUseOf}
use Rattle.sv_processed.specs.Works.{IsAt, bound_as}
use Rattle.sv_processed.specs.declared.work.Work.{Work}
use Rattle.sv_batch.specs.Running.{AreSignalsReady, AreWaitsReady, are_recordings_after}
use Rattle.sv_batch.proofs.OneMore.{at_both}

-- what the calls for waits and signals say
abbrev pub WaitsAfter : Trace → Run → List SemaphoreUse → Work → Work → Type 0
WaitsAfter t r waits w v = (event : ℕ) (old more : List Bound) (m : Made) → AreWaitsReady t m waits
    → IsAt t event old more m w
    → IsAt t event old (more ++ bound_as (length (old ++ more)) event
    (Groups (gather waited (wait_given t (run_for event r)) m waits)) [] ∷ []) (fold waited m waits) v

abbrev pub SignalsAfter : Trace → Run → List SemaphoreUse → Work → Work → Type 0
SignalsAfter t r signals w v = (event : ℕ) (old more : List Bound) (m : Made) → AreSignalsReady t m signals
    → IsAt t event old more m w
    → IsAt t event old (more ++ bound_as (length (old ++ more)) event
    (Groups (gather (signaled t) (signal_given t (run_for event r)) m signals))
    (gather (signaled t) (timeline_notes t (run_for event r)) m signals) ∷ [])
    (fold (signaled t) m signals) v

pub waits_ready : (t : Trace) (m : Made) (b : Batch) → IsBatchOf t b → batch_ready (past_of t m) b ≡ true
    → AreWaitsReady t m b.waits
waits_ready t m b is ready = record {
  uses = λ i d lt. All-get_or (λ (u : SemaphoreUse). IsUseOf t u.sem u.value) b.waits i d lt is.waits;
  found = λ i d lt. waits_find t m b i d is ready lt;
}

pub signals_ready : (t : Trace) (event : ℕ) (r : Run) (m : Made) (b : Batch) → IsBatchOf t b
    → batch_ready (past_of t m) b ≡ true → AreSignalsReady t (recs_made t (run_for event r) m b) b.signals
signals_ready t event r m b is ready = record {
  uses = λ i d lt. All-get_or (λ (u : SemaphoreUse). IsUseOf t u.sem u.value) b.signals i d lt is.signals;
  room = λ i d lt. signals_find t (run_for event r) m b i d is ready lt;
}

pub batch_taken : (t : Trace) (r : Run) (b : Batch) (w u v z : Work) → WaitsAfter t r b.waits w u
    → are_recordings_after r b.recs t u v → SignalsAfter t r b.signals v z → IsBatchOf t b
    → (event : ℕ) (old more : List Bound) (m : Made) → batch_ready (past_of t m) b ≡ true
    → IsAt t event old more m w → IsAt t event old
    (more ++ numbered (length (old ++ more)) (batch_given t (run_for event r) m b))
    (batch_made t (run_for event r) m b) z
batch_taken t r b w u v z waits recs signals is event old more m ready at =
    let given = gather (rec_made t (run_for event r)) (rec_given t (run_for event r)) (waits_made m b)
    (enumerate_from 0 b.recs) in
    let last = signals_step t (run_for event r) (recs_made t (run_for event r) m b) b in
    at_both t event old more (waits_step t (run_for event r) m b ∷ []) (given ++ last ∷ []) (waits_made m b)
    (batch_made t (run_for event r) m b) u z (waits event old more m (waits_ready t m b is ready) at)
    (λ later there.
    at_both t event old later given (last ∷ []) (recs_made t (run_for event r) m b)
    (batch_made t (run_for event r) m b) v z (recs event old later (waits_made m b) there)
    (λ end now. signals event old end (recs_made t (run_for event r) m b)
    (signals_ready t event r m b is ready) now))
