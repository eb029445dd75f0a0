-- The printed lines of a reply: its reports in order, and each note where it stands among them.
use Rattle.std.specs.Prelude.{ℕ, ◌+◌, List, [], ◌∷◌, ◌++◌, length, drop, take_while, nat_le}
use Rattle.std.specs.List.{flat_map}
use Rattle.sv_model.specs.declared.work.Report.{Report}
use Rattle.sv_model.specs.declared.work.Reply.{Reply}
use Rattle.sv_model.specs.declared.work.Note.{Note}
use Rattle.sv_model.specs.declared.work.Note.TheVariants as note
use Rattle.sv_model.specs.Replies.{reports_before}
use Rattle.sv_report.specs.Lines.{report_line}
use Rattle.sv_report.specs.Notes.{note_line}

-- the first of the notes, as far as no more than so many reports stand before them
abbrev pub due : ℕ → List Note → List Note
due number notes = take_while (λ n. nat_le (reports_before n) number) notes

-- the reports from the one with this number on, each after the notes that are due there; the last notes
-- stand at the end
unfoldable pub entries : ℕ → List Report → List Note → List ℕ
entries number [] notes = flat_map note_line notes
entries number (r ∷ rs) notes = flat_map note_line (due number notes) ++ report_line r
    ++ entries (number + 1) rs (drop (length (due number notes)) notes)

abbrev pub reply_text : Reply → List ℕ
reply_text reply = entries 0 reply.reports reply.notes
