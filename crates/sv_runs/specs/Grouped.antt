-- A reply in greatest runs of neighbouring cells.
use Rattle.std.specs.Prelude.{ℕ, ◌≡◌, ◌≤◌, Contains, List, map}
use Rattle.std.specs.List.{AllPairs}
use Rattle.sv_model.specs.Cells.{EndsSmall}
use Rattle.sv_model.specs.Notes.{AreGreatestNotes, IsNoteRun, cells_of_notes, notes_in}
use Rattle.sv_model.specs.Replies.{IsReportedIn, among, note_behind, reports_up_to, reports_before}
use Rattle.sv_model.specs.Reports.{AreGreatestRuns, IsRun, Spot, SpotBefore, spots_of}
use Rattle.sv_model.specs.declared.line.Mark.{Mark}
use Rattle.sv_model.specs.declared.line.Trace.{Trace}
use Rattle.sv_model.specs.declared.work.Note.{Note}
use Rattle.sv_model.specs.declared.work.Note.TheVariants as note
use Rattle.sv_model.specs.declared.work.Reply.{Reply}
use Rattle.sv_model.specs.declared.work.Report.{Report}
use Rattle.sv_runs.specs.Joined.{EndsWithin}

-- the note, which stood behind so many reports, behind as many as they now are
abbrev pub moved : (ℕ → ℕ) → Note → Note
moved to n = note_behind (to (reports_before n)) n

-- the report is on one run of cells
abbrev pub HasRun : Report → Type 0
HasRun r = IsRun r.area × EndsSmall r.area

-- the note is on one run of cells, or on none
abbrev pub HasNoteRun : Note → Type 0
HasNoteRun n = IsNoteRun n × EndsWithin n

abbrev pub IsNotLater : Report → Report → Type 0
IsNotLater r s = r.later.step ≤ s.later.step

-- where the reports come by step, the reports up to a step are as many as the count of those that they were
abbrev pub Moves : List Report → List Report → (ℕ → ℕ) → Type 0
Moves reports grouped to = AllPairs IsNotLater reports
    → (step : ℕ) → to (reports_up_to reports step) ≡ reports_up_to grouped step

-- The reports are the same in greatest runs of neighbouring cells, and so are the notes, each behind the
-- reports of the steps that it stood behind.
pub record IsGrouped (reply grouped : Reply) : Type 0 where
  pub reports : AreGreatestRuns (spots_of reply.reports) grouped.reports
  pub to : ℕ → ℕ
  pub moves : Moves reply.reports grouped.reports to
  pub notes : AreGreatestNotes (cells_of_notes (map (moved to) reply.notes)) grouped.notes

-- The reply stands for the reply to an event, cell by cell: written out, its areas give the reports of the
-- steps that the event released, each once and in order, and its notes are theirs, each behind the reports
-- of its step and of the earlier ones.
pub record StandsFor (t : Trace) (history : List Mark) (event : ℕ) (reply : Reply) : Type 0 where
  pub only : (s : Spot) → Contains (spots_of reply.reports) s → IsReportedIn t history event s
  pub all : (s : Spot) → IsReportedIn t history event s → Contains (spots_of reply.reports) s
  pub in_order : AllPairs SpotBefore (spots_of reply.reports)
  pub notes : cells_of_notes reply.notes ≡ among reply.reports (notes_in t history event)
