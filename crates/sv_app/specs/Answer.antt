-- What is written for a text, with which status, and which reports are printed.
use Rattle.std.specs.Prelude.{ℕ, Bool, ◌≡◌, ◌==◌, ◌&&◌, if◌then◌else◌, List, [], Result, Ok, Err, length}
use Rattle.std.specs.List.{flat_map, list_all}
use Rattle.sv_model.specs.Holding.{held_items}
use Rattle.sv_model.specs.History.{IsWhole}
use Rattle.sv_model.specs.Lawful.{IsLawful}
use Rattle.sv_model.specs.Replies.{AreReplies}
use Rattle.sv_model.specs.declared.line.Mark.{Mark}
use Rattle.sv_model.specs.declared.line.Trace.{Trace}
use Rattle.sv_model.specs.declared.refusal.Refusal.{Refusal}
use Rattle.sv_model.specs.declared.work.Held.{Held}
use Rattle.sv_model.specs.declared.work.Reply.{Reply}
use Rattle.sv_model.specs.declared.work.Report.{Report}
use Rattle.sv_report.specs.Lines.{refusal_line}
use Rattle.sv_report.specs.Text.{history_text}
use Rattle.sv_rules.specs.Outcome.{IsOutcomeOf}
use Rattle.sv_app.specs.declared.status.Status.{Status}
use Rattle.sv_app.specs.declared.status.Status.TheVariants.{Clean, Found, Refused}

-- the reply has no report and no note
abbrev pub is_silent : Reply → Bool
is_silent reply = length reply.reports == 0 && length reply.notes == 0

-- there is no report, no note and no held item
abbrev pub is_clean : List Reply → List Held → Bool
is_clean replies held = list_all is_silent replies && length held == 0

-- Found where there is a report, a note or a held item
abbrev pub status_of : List Reply → List Held → Status
status_of replies held = if is_clean replies held then Clean else Found

-- the reports that a text has, in its order
abbrev pub printed_reports : List Reply → List Report
printed_reports replies = flat_map (λ (r : Reply). r.reports) replies

-- A whole history of a trace, with the replies to its events, and the status of these and of what is held
-- at the end.
pub record IsChecked (t : Trace) (history : List Mark) (replies : List Reply) (status : Status) : Type 0 where
  pub whole : IsWhole t history
  pub answered : AreReplies t history replies
  pub has_status : status ≡ status_of replies (held_items t history)

-- The text of a whole history of a trace, and its status: each event is printed with the reply to it, and
-- then what is held at the end. The reports are those that are printed.
pub record IsTextOf (t : Trace) (history : List Mark) (status : Status) (text : List ℕ)
    (reports : List Report) : Type 0 where
  pub replies : List Reply
  pub checked : IsChecked t history replies status
  pub has_text : text ≡ history_text t history replies (held_items t history)
  pub has_reports : reports ≡ printed_reports replies

-- the line of a refusal, and its status; no report is printed
pub record IsRefusalLine (refusal : Refusal) (status : Status) (text : List ℕ)
    (reports : List Report) : Type 0 where
  pub has_status : status ≡ Refused
  pub has_text : text ≡ refusal_line refusal
  pub has_reports : reports ≡ []

-- the text of a trace in the order of its lines
abbrev pub InTextOrder : Trace → Status → List ℕ → List Report → Type 0
InTextOrder t status text reports = IsTextOf t t.text_order status text reports

-- the text of a trace in some whole history of it, which is the one that the event lines name
abbrev pub InSomeOrder : Trace → Status → List ℕ → List Report → Type 0
InSomeOrder t status text reports = (history : List Mark) × IsTextOf t history status text reports

-- what is written for an outcome, and the status: the text of the trace, which is lawful, in that order, or
-- the line of the refusal
abbrev pub IsAnswerOf : (Trace → Status → List ℕ → List Report → Type 0) → Result Trace Refusal
    → Status → List ℕ → List Report → Type 0
IsAnswerOf InOrder (Err refusal) status text reports = IsRefusalLine refusal status text reports
IsAnswerOf InOrder (Ok t) status text reports = IsLawful t × InOrder t status text reports

-- the text is the answer to these bytes in that order, with this status, and these are the reports in it
abbrev pub IsAnswerTo : (Trace → Status → List ℕ → List Report → Type 0) → List ℕ
    → Status → List ℕ → List Report → Type 0
IsAnswerTo InOrder bytes status text reports = (outcome : Result Trace Refusal) × IsOutcomeOf bytes outcome
    × IsAnswerOf InOrder outcome status text reports
