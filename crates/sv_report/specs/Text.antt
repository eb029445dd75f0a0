-- The printed lines of the events of a history.
use Rattle.std.specs.Prelude.{ℕ, ◌+◌, List, [], ◌∷◌, ◌++◌, length, sum_by}
use Rattle.std.specs.List.{flat_map}
use Rattle.std.specs.Option.{option_map_or}
use Rattle.sv_model.specs.declared.line.Trace.{Trace}
use Rattle.sv_model.specs.declared.line.Recording.{Recording}
use Rattle.sv_model.specs.declared.line.Line.{Line}
use Rattle.sv_model.specs.declared.line.Mark.{Mark}
use Rattle.sv_model.specs.declared.line.Mark.TheVariants.{Publish, Call}
use Rattle.sv_model.specs.declared.work.Reply.{Reply}
use Rattle.sv_model.specs.declared.work.Held.{Held}
use Rattle.sv_model.specs.Declarations.{recording_of, call_of}
use Rattle.sv_report.specs.Lines.{publish_line, call_line, total_line}
use Rattle.sv_report.specs.Notes.{held_line}
use Rattle.sv_report.specs.Replies.{reply_text}

-- the line of the event with this number; a mark that is none of the trace has no line
unfoldable pub event_line : Trace → ℕ → Mark → List ℕ
event_line t number (Publish k) = option_map_or (λ (r : Recording). publish_line number r.recorder k)
    (recording_of t k) []
event_line t number (Call lane index) = option_map_or (λ (call : Line). call_line number lane index call)
    (call_of t lane index) []

-- each event's line, and its reply under it, from the event with this number on
unfoldable pub events_text : Trace → ℕ → List Mark → List Reply → List ℕ
events_text t number [] replies = []
events_text t number (mark ∷ marks) [] = []
events_text t number (mark ∷ marks) (reply ∷ replies) = event_line t number mark ++ reply_text reply
    ++ events_text t (number + 1) marks replies

abbrev pub report_count : List Reply → ℕ
report_count replies = sum_by (λ (r : Reply). length r.reports) replies

abbrev pub note_count : List Reply → ℕ
note_count replies = sum_by (λ (r : Reply). length r.notes) replies

-- the lines of all events, then those of the items still held, then the total
unfoldable pub history_text : Trace → List Mark → List Reply → List Held → List ℕ
history_text t marks replies held = events_text t 0 marks replies ++ flat_map held_line held
    ++ total_line (length marks) (report_count replies) (note_count replies) (length held)
