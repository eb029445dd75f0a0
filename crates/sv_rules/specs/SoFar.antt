-- What holds of the trace of lines of which none is refused, before their end: it is lawful but for
-- recordings that are open.
use Rattle.std.specs.Prelude.{◌≡◌, ℕ, ◌≤◌, ◌<◌, List, true, All, IsTrue, length, map, reverse, slice_get}
use Rattle.std.specs.Prelude.{take}
use Rattle.std.specs.List.{AllPairs}
use Rattle.sv_model.specs.declared.line.Batch.{Batch}
use Rattle.sv_model.specs.declared.line.Line.{Line}
use Rattle.sv_model.specs.declared.line.Line.TheVariants as line
use Rattle.sv_model.specs.declared.line.Mark.{Mark}
use Rattle.sv_model.specs.declared.line.Recording.{Recording}
use Rattle.sv_model.specs.declared.line.Trace.{Trace}
use Rattle.sv_model.specs.Recordings.{scope_after}
use Rattle.sv_model.specs.Holding.{is_published, are_published}
use Rattle.sv_model.specs.History.{IsOfTrace, calls_of, publications_of, lane_script, recorder_script}
use Rattle.sv_model.specs.History.{call_of_mark, batches_in}
use Rattle.sv_model.specs.LawfulCommands.{AreLawful, IsOutside}
use Rattle.sv_model.specs.Lawful.{IsLawfulQueue, IsLawfulResource, IsLawfulSemaphore, IsLawfulEventLine}
use Rattle.sv_model.specs.Lawful.{IsLawfulFence, IsLawfulPassLine, AreOnce, Differ, IsLawfulCall, script_of}
use Rattle.sv_model.specs.Lawful.{event_count}
use Rattle.sv_model.specs.Size.{work_size}

-- these lines are of one kind and lawful, and declare each thing once
pub record DeclareLawfully (IsOfKind : Line → Type 0) (list : List Line) : Type 0 where
  pub each : All IsOfKind list
  pub once : AreOnce list

-- the declaring lines of a trace
pub record DeclaredLawfully (qs rs ss es fs ps : List Line) : Type 0 where
  pub queues : DeclareLawfully IsLawfulQueue qs
  pub resources : DeclareLawfully IsLawfulResource rs
  pub semaphores : DeclareLawfully IsLawfulSemaphore ss
  pub events : DeclareLawfully IsLawfulEventLine es
  pub fences : DeclareLawfully IsLawfulFence fs
  pub passes : DeclareLawfully IsLawfulPassLine ps

-- the recording is published among these events
abbrev pub IsAmong : List Mark → ℕ → Type 0
IsAmong marks k = is_published marks k ≡ true

-- a recording that has ended, has ended outside every render scope
pub record RecordingIsLawfulSoFar (lines : ℕ) (t : Trace) (r : Recording) : Type 0 where
  pub number : r.rec < 65536
  pub recorder : r.recorder < 16
  pub family : r.family < 65536
  pub few : length r.commands ≤ lines
  pub commands : AreLawful t r.family (reverse r.commands)
  pub end : IsAmong t.text_order r.rec → IsOutside (scope_after (reverse r.commands))

-- the recordings that the event at that place submits have ended before it
abbrev pub IsAfterItsRecordings : Trace → List Mark → ℕ → Type 0
IsAfterItsRecordings t marks n = IsTrue (are_published (take n marks)
    (batches_in (call_of_mark t (slice_get marks n))))

-- the property of each recording that a call names
abbrev pub NamesAll : (ℕ → Type 0) → Line → Type 0
NamesAll P (line.Submit lane queue batches fence) = All (λ (b : Batch). All P b.recs) batches
NamesAll P other = Unit {0}

pub record IsLawfulSoFar (lines : ℕ) (t : Trace) : Type 0 where
  pub few : lines ≤ 1000000
  pub declared : DeclaredLawfully t.queues t.resources t.semaphores t.events t.fences t.passes
  pub recordings : All (RecordingIsLawfulSoFar lines t) t.recordings
  pub recordings_once : AllPairs Differ (map (λ (r : Recording). r.rec) t.recordings)
  pub lane_count : length t.lane_scripts ≡ 16
  pub lanes : (lane : ℕ) → All (IsLawfulCall t lane) (script_of t lane)
  pub recorder_count : length t.recorder_scripts ≡ 16
  pub once : (recorder : ℕ) → AllPairs Differ (recorder_script t recorder)
  pub of_trace : All (IsOfTrace t) t.text_order
  pub by_lane : (lane : ℕ) → calls_of t.text_order lane ≡ lane_script t lane
  pub by_recorder : (recorder : ℕ) → publications_of t t.text_order recorder ≡ recorder_script t recorder
  pub ended : (n : ℕ) → IsAfterItsRecordings t t.text_order n
  -- calls name recordings that have ended
  pub named : (lane : ℕ) → All (NamesAll (IsAmong t.text_order)) (script_of t lane)
  pub events : event_count t ≤ lines
  pub size : work_size t ≤ 4000000
