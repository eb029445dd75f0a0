use Rattle.std.proofs.Common.{◌≡◌, take}
use Rattle.std.specs.List.{All}
use Rattle.sv_model.specs.declared.line.Trace.{Trace}
use Rattle.sv_processed.specs.Works.{WorkFits}
use Rattle.sv_batch.specs.Running.{AreOf, IsThere, are_recordings_after}
use Rattle.sv_batch.proofs.recordings.take_recordings.Given as goal

abbrev pub invariant-loop-rec : goal.invariant-loop-rec
invariant-loop-rec l = record {
  slot : l.slot ≡ l.rec-index;
  fits : (t : Trace) → AreOf t l.fn.recordings → WorkFits t l.fn.work → WorkFits t l.work;
  at : (t : Trace) → All (IsThere t l.fn.recordings) l.fn.recs
      → are_recordings_after l.run (take l.rec-index l.fn.recs) t l.fn.work l.work;
}
