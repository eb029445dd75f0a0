-- Items that may run.
use Rattle.std.specs.Prelude.{◌≡◌, ℕ, List, ◌++◌, true, Option, Some, None, length}
use Rattle.std.specs.List.{All}
use Rattle.sv_model.specs.Batches.{batch_given, batch_made}
use Rattle.sv_model.specs.Places.{Bound}
use Rattle.sv_model.specs.Declarations.{call_of, is_fence}
use Rattle.sv_model.specs.Semaphores.{batch_ready}
use Rattle.sv_model.specs.History.{batch_at}
use Rattle.sv_model.specs.Primitives.{Made}
use Rattle.sv_model.specs.Work.{numbered}
use Rattle.sv_model.specs.declared.line.Batch.{Batch}
use Rattle.sv_model.specs.declared.line.Line.{Line}
use Rattle.sv_model.specs.declared.line.Mark.{Mark}
use Rattle.sv_model.specs.declared.line.Trace.{Trace}
use Rattle.sv_model.specs.declared.work.Item.{Item}
use Rattle.sv_model.specs.declared.work.Item.TheVariants as item
use Rattle.sv_binding.specs.Runs.{run_for}
use Rattle.sv_binding.specs.declared.run.Run.{Run}
use Rattle.sv_processed.specs.Works.{IsAt}
use Rattle.sv_processed.specs.declared.work.Work.{Work}
use Rattle.sv_gate.specs.Kept.{IsBatchOf, past_of}
use Rattle.sv_batch.specs.Running.{IsThere}
use Rattle.sv_core.specs.Taking.{NamesFence}
use Rattle.sv_batch.specs.declared.recordings.Recordings.{Recordings}

abbrev pub CallNamesFence : Trace → Option Line → Type 0
CallNamesFence t None = Unit {0}
CallNamesFence t (Some call) = NamesFence t call

-- the uses of the batch fit their semaphores, it may run by what the items left, and its recordings are there
pub record IsReadyBatch (t : Trace) (r : Recordings) (m : Made) (b : Batch) : Type 0 where
  pub uses : IsBatchOf t b
  pub ready : batch_ready (past_of t m) b ≡ true
  pub there : All (IsThere t r) b.recs

-- a batch may run, a fence that is signalled or waited for is declared
abbrev pub IsRunnable : Trace → List Mark → Recordings → Made → Item → Type 0
IsRunnable t history r m (item.Batch queue event batch) = IsReadyBatch t r m (batch_at t history event batch)
IsRunnable t history r m (item.Fence queue event fence) = is_fence t fence ≡ true
IsRunnable t history r m (item.Call lane index) = CallNamesFence t (call_of t lane index)

-- the steps of that batch are added, where it is ready
abbrev pub IsBatchAfter : Trace → ℕ → Recordings → Run → Batch → Work → Work → Type 0
IsBatchAfter t event recordings r b before after = (old more : List Bound) (m : Made)
    → IsReadyBatch t recordings m b → IsAt t event old more m before
    → IsAt t event old (more ++ numbered (length (old ++ more)) (batch_given t (run_for event r) m b))
    (batch_made t (run_for event r) m b) after
