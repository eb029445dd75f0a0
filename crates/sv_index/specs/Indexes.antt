-- What an index stands for.
use Rattle.sv_model.specs.declared.line.Trace.{Trace}
use Rattle.sv_index.specs.Places.{ArePlaces}
use Rattle.sv_index.specs.declared.recordings.RecordingIndex.{RecordingIndex}

-- the index has the place of each recording of the trace
unfoldable pub IsIndexOf : Trace → RecordingIndex → Type 0
IsIndexOf t index = ArePlaces t.recordings index.places
