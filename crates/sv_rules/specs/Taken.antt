-- What the lines before a line come to.
use Rattle.std.specs.Prelude.{ℕ, ◌+◌, Bool, true, false, ◌||◌, List, [], ◌∷◌, Option, Some, None, reverse}
use Rattle.std.specs.Prelude.{option_map}
use Rattle.sv_model.specs.declared.line.Line.{Line}
use Rattle.sv_model.specs.declared.line.Line.TheVariants as line
use Rattle.sv_model.specs.declared.line.Recording.{Recording}
use Rattle.sv_model.specs.declared.line.Trace.{Trace}
use Rattle.sv_model.specs.declared.line.SemKind.{SemKind}
use Rattle.sv_model.specs.Declarations.{QueueLine, Resource, Pass, queue_of, resource_of, semaphore_kind}
use Rattle.sv_model.specs.Declarations.{pass_of}
use Rattle.sv_model.specs.Declarations.{recording_of, commands_of}
use Rattle.sv_model.specs.Holding.{is_published}
use Rattle.sv_model.specs.Size.{recording_size}
use Rattle.sv_model.specs.Recordings.{Scope, scope_after}
use Rattle.sv_rules.specs.declared.standing.Standing.{Standing}
use Rattle.sv_rules.specs.Standings.{standing_of}
use Rattle.sv_rules.specs.Trace.{no_lines, with_line}

-- how many lines there are, whether one of them is not blank, and the trace that they make
pub record Taken : Type 0 where
  pub lines : ℕ
  pub begun : Bool
  pub trace : Trace

abbrev pub nothing_taken : Taken
nothing_taken = record { lines = 0; begun = false; trace = no_lines }

abbrev pub is_written : Line → Bool
is_written line.Blank = false
is_written other = true

-- with one more line
abbrev pub taken_with : Taken → Line → Taken
taken_with s line = record {
  lines = s.lines + 1;
  begun = s.begun || is_written line;
  trace = with_line s.trace line;
}

-- what these lines come to, of which the newest stands first
unfoldable pub taken_of : List Line → Taken
taken_of [] = nothing_taken
taken_of (newest ∷ before) = taken_with (taken_of before) newest

-- What they say of queues and recordings.

-- the family and the lane of a queue
abbrev pub family_and_lane : QueueLine → ℕ × ℕ
family_and_lane q = (q.family, q.lane)

abbrev pub queue_in : Trace → ℕ → Option (ℕ × ℕ)
queue_in t queue = option_map family_and_lane (queue_of t queue)

unfoldable pub family_of_queue : Trace → ℕ → Option ℕ
family_of_queue t queue = option_map (λ (q : ℕ × ℕ). q.0) (queue_in t queue)

unfoldable pub lane_of_queue : Trace → ℕ → Option ℕ
lane_of_queue t queue = option_map (λ (q : ℕ × ℕ). q.1) (queue_in t queue)

unfoldable pub pass_in : Trace → ℕ → Pass
pass_in t pass = pass_of t pass

unfoldable pub kind_in : Trace → ℕ → Option SemKind
kind_in t sem = semaphore_kind t sem

unfoldable pub resource_in : Trace → ℕ → Option Resource
resource_in t res = resource_of t res

unfoldable pub family_of_recording : Trace → ℕ → Option ℕ
family_of_recording t rec = option_map (λ (r : Recording). r.family) (recording_of t rec)

-- the recording has ended: it is published
unfoldable pub has_ended : Trace → ℕ → Bool
has_ended t rec = is_published t.text_order rec

-- the render scope in which the next command of a recording stands
abbrev pub scope_in : Trace → ℕ → Scope
scope_in t rec = scope_after (reverse (commands_of t rec))

unfoldable pub standing_in : Trace → ℕ → Standing
standing_in t rec = standing_of (scope_in t rec)

-- its size so far
unfoldable pub size_in : Trace → ℕ → ℕ
size_in t rec = recording_size t rec

-- the recording of which the line is a command, or the end
abbrev pub recording_at : Line → Option ℕ
recording_at (line.End rec) = Some rec
recording_at (line.Work rec accesses) = Some rec
recording_at (line.Barrier rec deps) = Some rec
recording_at (line.SetEvent rec event deps) = Some rec
recording_at (line.WaitEvent rec event) = Some rec
recording_at (line.ResetEvent rec event) = Some rec
recording_at (line.BeginRendering rec attachments) = Some rec
recording_at (line.EndRendering rec) = Some rec
recording_at (line.BeginPass rec pass views) = Some rec
recording_at (line.NextSubpass rec) = Some rec
recording_at (line.EndPass rec) = Some rec
recording_at other = None
