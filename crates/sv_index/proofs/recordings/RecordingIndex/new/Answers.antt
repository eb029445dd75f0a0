use Rattle.std.proofs.Common.{List, subst}
use Rattle.sv_model.specs.declared.line.Recording.{Recording}
use Rattle.sv_index.specs.Indexes.{IsIndexOf}
use Rattle.sv_index.specs.Places.{ArePlaces}
use Rattle.sv_index.proofs.recordings.RecordingIndex.new.Goals as goal

pub returns : goal.returns
unfolding IsIndexOf
returns c = subst (λ (rs : List Recording). ArePlaces rs c.in_ok-places.places) c.as_slice.ensures
    c.in_ok-places.ensures
