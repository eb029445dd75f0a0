-- What a reply says so far.
use Rattle.std.specs.Prelude.{ℕ, ◌<◌, List, ◌++◌, length, map}
use Rattle.std.specs.List.{All}
use Rattle.sv_model.specs.Places.{Bound}
use Rattle.sv_model.specs.Notes.{AreGreatestNotes}
use Rattle.sv_model.specs.Replies.{among}
use Rattle.sv_model.specs.ReplyLaws.{notes_of_more}
use Rattle.sv_model.specs.Reports.{AreReportsFrom, spots_of}
use Rattle.sv_model.specs.declared.line.Trace.{Trace}
use Rattle.sv_model.specs.declared.work.Note.{Note}
use Rattle.sv_model.specs.declared.work.Note.TheVariants as note
use Rattle.sv_model.specs.declared.work.Reply.{Reply}
use Rattle.sv_model.specs.declared.work.Step.{Step}
use Rattle.sv_runs.specs.Runs.{AreRuns}

abbrev pub steps_in : List Bound → List Step
steps_in steps = map (λ (b : Bound). b.step) steps

-- on no cells
abbrev pub IsOnNone : Note → Type 0
IsOnNone (note.Layout n) = ⊥
IsOnNone (note.Owner n) = ⊥
IsOnNone (note.Event n) = Unit {0}
IsOnNone (note.Timeline n) = Unit {0}
IsOnNone (note.Fence n) = Unit {0}

-- of a step below this one, where it is on cells
abbrev pub IsNoteBelow : ℕ → Note → Type 0
IsNoteBelow bound (note.Layout n) = n.step < bound
IsNoteBelow bound (note.Owner n) = n.step < bound
IsNoteBelow bound (note.Event n) = Unit {0}
IsNoteBelow bound (note.Timeline n) = Unit {0}
IsNoteBelow bound (note.Fence n) = Unit {0}

-- The reply says what these further steps of a work report, and their notes, in greatest runs.
pub record IsReplySoFar (t : Trace) (event : ℕ) (old more : List Bound) (reply : Reply) : Type 0 where
  pub reports : AreReportsFrom (length old) (steps_in (old ++ more)) (spots_of reply.reports)
  pub runs : AreRuns reply.reports
  pub notes : AreGreatestNotes (among reply.reports (notes_of_more t event old more)) reply.notes
  pub below : All (IsNoteBelow (length (old ++ more))) reply.notes
