-- An index is of a trace in one way, so that a ghost field may say it.
use Rattle.std.specs.Prelude.{ℕ, List, Option, Some, None}
use Rattle.std.proofs.Props.{props}
use Rattle.sv_index.specs.Indexes as recordings
use Rattle.sv_index.specs.Places.{IsPlaceOf}
use Rattle.sv_model.specs.declared.line.Recording.{Recording}
use Rattle.sv_model.specs.declared.line.Trace.{Trace}
use Rattle.sv_record.specs.Indexed.{IsIndexOf}
use Rattle.sv_record.specs.declared.index.Index.{Index}

IsPlaceOf-prop : (rs : List Recording) (number : ℕ) (place : Option ℕ) → IsProp (IsPlaceOf rs number place)
IsPlaceOf-prop rs number None = Prim.hlevel props
IsPlaceOf-prop rs number (Some place) = Prim.hlevel props

recordings-prop : (t : Trace) (index : Index) → IsProp (recordings.IsIndexOf t index.recordings)
unfolding recordings.IsIndexOf
recordings-prop t index = Prim.hlevel (props, IsPlaceOf-prop)

pub IsIndexOf-prop : (t : Trace) (index : Index) → IsProp (IsIndexOf t index)
IsIndexOf-prop t index = Prim.hlevel (props, recordings-prop t index)
