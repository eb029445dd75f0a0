use Rattle.std.proofs.Common.{◌∙◌, List, ap, sym}
use Rattle.std.specs.Prelude.{slice_get}
use Rattle.sv_model.specs.declared.line.Recording.{Recording}
use Rattle.sv_index.specs.Indexes.{IsIndexOf}
use Rattle.sv_index.proofs.MorePlaces.{told, told_none}
use Rattle.sv_index.proofs.recordings.RecordingIndex.find.Goals as goal

pub returns-in-Some : goal.returns-in-Some
unfolding IsIndexOf
returns-in-Some c =
    c.recording_at.ensures
    ∙ ap (λ (rs : List Recording). slice_get rs c.in-Some.place) c.as_slice.ensures
    ∙ sym (told c.args.trace.now.recordings c.args.number c.in-Some.place _ (c.requires c.args.number)
    (sym c.place_of.ensures ∙ c.in-Some.is))

pub returns-in-None : goal.returns-in-None
unfolding IsIndexOf
returns-in-None c = sym (told_none c.args.trace.now.recordings c.args.number _ (c.requires c.args.number)
    (sym c.place_of.ensures ∙ c.in-None.is))
