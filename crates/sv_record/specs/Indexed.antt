-- What an index of a trace stands for.
use Rattle.std.specs.Prelude.{◌≡◌}
use Rattle.sv_model.specs.declared.line.Trace.{Trace}
use Rattle.sv_index.specs.Indexes as recordings
use Rattle.sv_record.specs.declared.index.Index.{Index}

-- the passes and the recordings are those of the trace
pub record IsIndexOf (t : Trace) (index : Index) : Type 0 where
  pub passes : index.passes ≡ t.passes
  pub recordings : recordings.IsIndexOf t index.recordings
