-- What the tables of the checker say is what the trace says.
use Rattle.std.specs.Prelude.{◌≡◌, ℕ, ◌≤◌, ◌<◌, Bool, true, false, List, [], Option, Some, None, is_some}
use Rattle.std.specs.Prelude.{length, map, option_map, option_and_then, reverse, slice_get, slice_index_or}
use Rattle.std.specs.Prelude.{sum_by}
use Rattle.std.specs.BTreeMap.{BTreeMap, get}
use Rattle.std.specs.Ordering.{nat_cmp}
use Rattle.sv_model.specs.declared.line.Line.{Line}
use Rattle.sv_model.specs.declared.line.SemKind.{SemKind}
use Rattle.sv_model.specs.declared.line.Mark.{Mark}
use Rattle.sv_model.specs.declared.line.Recording.{Recording}
use Rattle.sv_model.specs.declared.line.Trace.{Trace}
use Rattle.sv_model.specs.Declarations.{Pass, said, says_event, says_signaled, semaphore_kind, resource_of}
use Rattle.sv_model.specs.Declarations.{pass_of, is_pass, says_pass, recording_of}
use Rattle.sv_model.specs.Recordings.{Scope, InPass, scope_after, lowered}
use Rattle.sv_model.specs.Size.{step_size, call_size, recording_size, work_size, capped}
use Rattle.sv_lines.specs.declared.extent.Extent.{Extent}
use Rattle.sv_lines.specs.declared.known.Known.{Known}
use Rattle.sv_lines.specs.declared.measure.PassSizes.{PassSizes}
use Rattle.sv_lines.specs.Extents.{as_resource}
use Rattle.sv_lines.specs.Measures.{HasMeasure}
use Rattle.sv_rules.specs.Standings.{standing_of}
use Rattle.sv_rules.specs.Trace.{no_lines}
use Rattle.sv_rules.specs.Taken.{queue_in, has_ended}
use Rattle.sv_rules.specs.Places.{is_open_by, is_recording}
use Rattle.sv_lines.specs.PassLines.{pass_said}

-- the passes of a trace alone, on which the lowering of a recording rests
abbrev pub passes_only : Trace → Trace
passes_only t = record no_lines { passes = t.passes }

-- what the size of a trace rests on
abbrev pub sized_part : Trace → Trace
sized_part t = record no_lines { passes = t.passes; recordings = t.recordings; lane_scripts = t.lane_scripts }

-- what is kept of a recording
abbrev pub known_of : Trace → Recording → Known
known_of t r = record {
  recorder = r.recorder;
  family = r.family;
  ended = has_ended t r.rec;
  standing = standing_of (scope_after (reverse r.commands));
  size = capped (sum_by step_size (lowered (passes_only t) r (reverse r.commands)));
}

unfoldable pub known_in : Trace → ℕ → Option Known
known_in t rec = option_map (known_of t) (recording_of t rec)

-- the trace of these lists
abbrev pub trace_from : List Line → List Line → List Line → List Line → List Line → List Line
    → List Recording → List (List Line) → List (List ℕ) → List Mark → Trace
trace_from queues resources semaphores events fences passes recordings lanes recorders order = record {
  queues = queues;
  resources = resources;
  semaphores = semaphores;
  events = events;
  fences = fences;
  passes = passes;
  recordings = recordings;
  lane_scripts = lanes;
  recorder_scripts = recorders;
  text_order = order;
}

-- what a list has at the place that a table gives for a number
abbrev pub at_place : {V : Type 0} → List V → BTreeMap ℕ ℕ → ℕ → Option V
at_place items places n = option_and_then (slice_get items) (get nat_cmp places n)

abbrev pub pass_at : List Line → BTreeMap ℕ ℕ → ℕ → Option Pass
pass_at lines places n = option_and_then pass_said (at_place lines places n)

-- what is declared of queues, resources, semaphores, events, fences and passes
pub record DeclarationsAgree (t : Trace) (queue_table : BTreeMap ℕ (ℕ × ℕ))
    (resource_table : BTreeMap ℕ Extent) (semaphore_table : BTreeMap ℕ SemKind) (event_table : BTreeMap ℕ ℕ)
    (fence_table : BTreeMap ℕ Bool) (pass_table : BTreeMap ℕ ℕ) : Type 0 where
  pub queues : (n : ℕ) → get nat_cmp queue_table n ≡ queue_in t n
  pub resources : (n : ℕ) → option_map as_resource (get nat_cmp resource_table n) ≡ resource_of t n
  pub semaphores : (n : ℕ) → get nat_cmp semaphore_table n ≡ semaphore_kind t n
  pub events : (n : ℕ) → get nat_cmp event_table n ≡ said (says_event n) t.events
  pub fences : (n : ℕ) → get nat_cmp fence_table n ≡ said (says_signaled n) t.fences
  pub passes : (n : ℕ) → pass_at t.passes pass_table n ≡ said (says_pass n) t.passes
  pub passes_known : (n : ℕ) → is_some (get nat_cmp pass_table n) ≡ is_pass t n

-- The recordings: what is known of each, where each stands by its number, and which recorders have an open
-- one.
pub record RecordingsAgree (t : Trace) (all_known : List Known) (place_table : BTreeMap ℕ ℕ)
    (busy_recorders : List Bool) : Type 0 where
  pub known : all_known ≡ map (known_of t) t.recordings
  pub places : (n : ℕ) → at_place t.recordings place_table n ≡ recording_of t n
  pub places_known : (n : ℕ) → is_some (get nat_cmp place_table n) ≡ is_some (recording_of t n)
  pub unknown : (n : ℕ) → recording_of t n ≡ None → has_ended t n ≡ false
  pub recorder_count : length busy_recorders ≡ 16
  pub busy : (recorder : ℕ) → slice_index_or busy_recorders recorder false ≡ is_recording t recorder
  -- the table gives the place of each recording's number, so numbers stand once
  pub own : (k : ℕ) (d : Recording) → k < length t.recordings
      → get nat_cmp place_table (slice_index_or t.recordings k d).rec ≡ Some k
  pub small : (k : ℕ) (d : Recording) → k < length t.recordings → (slice_index_or t.recordings k d).recorder
      < 16
  -- a recorder has one open recording at most
  pub lone : (i j : ℕ) (d : Recording) → i < length t.recordings → j < length t.recordings
      → is_open_by t (slice_index_or t.recordings i d).recorder (slice_index_or t.recordings i d) ≡ true
      → is_open_by t (slice_index_or t.recordings i d).recorder (slice_index_or t.recordings j d) ≡ true → i
      ≡ j

-- a render scope of a declared pass has a view for each of its attachments
abbrev pub IsFitScope : Trace → Scope → Type 0
IsFitScope t (InPass pass views i) = (is_pass t pass ≡ true)
    × (length views ≡ length (pass_of t pass).attachments)
IsFitScope t other = Unit {0}

-- the passes that are declared in the one are the same in the other
abbrev pub KeepsPasses : Trace → Trace → Type 0
KeepsPasses t u = (n : ℕ) → is_pass t n ≡ true → pass_of u n ≡ pass_of t n

-- the recordings that have ended in the one have the same size in the other
abbrev pub KeepsEnded : Trace → Trace → Type 0
KeepsEnded t u = (k : ℕ) → has_ended t k ≡ true → recording_size u k ≡ recording_size (sized_part t) k

-- the size of these scripts by the recordings of a trace
abbrev pub scripts_size : Trace → List (List Line) → ℕ
scripts_size t scripts = sum_by (λ (script : List Line). sum_by (call_size t) script) scripts

-- What later lines leave as it is: recordings rest on declared passes, calls on recordings that have ended,
-- and the table of sizes has those of each declared pass.
pub record IsSteady (t : Trace) (size_table : BTreeMap ℕ PassSizes) : Type 0 where
  pub scopes : (k : ℕ) (d : Recording) → k < length t.recordings
      → IsFitScope t (scope_after (reverse (slice_index_or t.recordings k d).commands))
  pub steps : (k : ℕ) (d : Recording) → k < length t.recordings → (u : Trace) → KeepsPasses t u
      → lowered u (slice_index_or t.recordings k d) (reverse (slice_index_or t.recordings k d).commands)
      ≡ lowered (passes_only t) (slice_index_or t.recordings k d)
      (reverse (slice_index_or t.recordings k d).commands)
  pub calls : (u : Trace) → KeepsEnded t u → scripts_size u t.lane_scripts ≡ work_size (sized_part t)
  pub sizes : (n : ℕ) → is_pass t n ≡ true → HasMeasure (pass_of t n) (get nat_cmp size_table n)

-- All tables, and the sizes.
pub record IsSound (lines : ℕ) (t : Trace) (total : ℕ) (queue_table : BTreeMap ℕ (ℕ × ℕ))
    (resource_table : BTreeMap ℕ Extent) (semaphore_table : BTreeMap ℕ SemKind) (event_table : BTreeMap ℕ ℕ)
    (fence_table : BTreeMap ℕ Bool) (pass_table : BTreeMap ℕ ℕ) (size_table : BTreeMap ℕ PassSizes)
    (all_known : List Known) (place_table : BTreeMap ℕ ℕ) (busy_recorders : List Bool) : Type 0 where
  pub declared : DeclarationsAgree t queue_table resource_table semaphore_table event_table fence_table
      pass_table
  pub recorded : RecordingsAgree t all_known place_table busy_recorders
  pub steady : IsSteady t size_table
  pub size : total ≡ capped (work_size (sized_part t))
  pub few : lines ≤ 1000000
  pub lanes : length t.lane_scripts ≡ 16
  pub recorders : length t.recorder_scripts ≡ 16
  pub short : (lane : ℕ) → length (slice_index_or t.lane_scripts lane []) ≤ lines
