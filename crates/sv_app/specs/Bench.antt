-- What `bench` writes, and with which status.
use Rattle.std.specs.Prelude.{ℕ, ◌≡◌, List, [], ◌++◌, Result, Ok, Err, codes, length}
use Rattle.sv_gen.specs.Generated.{generated}
use Rattle.sv_model.specs.Holding.{held_items}
use Rattle.sv_model.specs.Lawful.{IsLawful}
use Rattle.sv_model.specs.declared.line.Mark.{Mark}
use Rattle.sv_model.specs.declared.line.Trace.{Trace}
use Rattle.sv_model.specs.declared.refusal.Refusal.{Refusal}
use Rattle.sv_model.specs.declared.work.Reply.{Reply}
use Rattle.sv_model.specs.declared.work.Report.{Report}
use Rattle.sv_report.specs.Lines.{count_text, counts_text}
use Rattle.sv_report.specs.Text.{note_count, report_count}
use Rattle.sv_rules.specs.Outcome.{IsOutcomeOf}
use Rattle.sv_app.specs.declared.status.Status.{Status}
use Rattle.sv_app.specs.Answer.{IsChecked, IsRefusalLine}

-- the seed and the number of works, and the numbers of the trace's total line
unfoldable pub bench_line : (seed count events reports notes held : ℕ) → List ℕ
bench_line seed count events reports notes held = codes "bench" ++ count_text (codes "seed") seed
    ++ count_text (codes "count") count ++ counts_text events reports notes held

-- The line of `bench` on a whole history of a trace, with the status of that history.
pub record IsBenchLine (seed count : ℕ) (t : Trace) (history : List Mark) (status : Status)
    (line : List ℕ) : Type 0 where
  pub replies : List Reply
  pub checked : IsChecked t history replies status
  pub has_line : line ≡ bench_line seed count (length history) (report_count replies) (note_count replies)
      (length (held_items t history))

-- what `bench` writes where the generated text has this outcome
abbrev pub IsBenchOf : (seed count : ℕ) → Result Trace Refusal → Status → List ℕ → Type 0
IsBenchOf seed count (Err refusal) status line = IsRefusalLine refusal status line []
IsBenchOf seed count (Ok t) status line = IsLawful t × IsBenchLine seed count t t.text_order status line

-- What `bench` writes: the line on the generated trace of so many works, with the status that `check` has
-- on it. A text that were refused would have the line of its refusal.
abbrev pub IsBench : (seed count : ℕ) → Status → List ℕ → Type 0
IsBench seed count status line = (outcome : Result Trace Refusal) × IsOutcomeOf (generated seed count) outcome
    × IsBenchOf seed count outcome status line
