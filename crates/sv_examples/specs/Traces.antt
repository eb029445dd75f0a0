-- Small traces, to compute the definitions on.
use Rattle.std.specs.Prelude.{ℕ, List, [], ◌∷◌, None, Option, replicate}
use Rattle.sv_mask.specs.Names.{stage_word, access_word}
use Rattle.sv_mask.specs.declared.stage.Stage.TheVariants.{Copy}
use Rattle.sv_mask.specs.declared.access.Access16.{Access16}
use Rattle.sv_mask.specs.declared.layout.Layout.TheVariants.{Undefined}
use Rattle.sv_model.specs.declared.line.Trace.{Trace}
use Rattle.sv_model.specs.declared.line.Recording.{Recording}
use Rattle.sv_model.specs.declared.line.Command.{Command}
use Rattle.sv_model.specs.declared.line.Command.TheVariants as command
use Rattle.sv_model.specs.declared.line.Line.{Line}
use Rattle.sv_model.specs.declared.line.Line.TheVariants as line
use Rattle.sv_model.specs.declared.line.Part.TheVariants as part
use Rattle.sv_model.specs.declared.line.Sharing.TheVariants.{Exclusive}
use Rattle.sv_model.specs.declared.line.Element.{Element}
use Rattle.sv_model.specs.declared.line.Target.{Target}
use Rattle.sv_model.specs.declared.line.Batch.{Batch}
use Rattle.sv_model.specs.declared.line.Mark.{Mark}

-- a work at copy on bytes of buffer 0
abbrev pub copy : Access16 → ℕ → ℕ → Command
copy access start end = command.Work (record {
  res = 0;
  stage = Copy;
  access = access;
  part = part.Bytes start end;
  layout = None;
} ∷ [])

-- an element with these stages and accesses, by their numbers
abbrev pub element : List ℕ → List ℕ → List ℕ → List ℕ → Option Target → Element
element src src_access dst dst_access target = record {
  src = stage_word src;
  src_access = access_word src_access;
  dst = stage_word dst;
  dst_access = access_word dst_access;
  target = target;
}

abbrev pub batch_of : ℕ → Batch
batch_of rec = record { waits = []; recs = rec ∷ []; signals = [] }

-- the recordings 0 and 1 of the recorders 0 and 1
abbrev pub recording : ℕ → ℕ → List Command → Recording
recording number family commands = record {
  rec = number;
  recorder = number;
  family = family;
  commands = commands;
}

-- a trace with buffer 0 of 64 bytes and image 1 of one mip and one layer
abbrev pub trace_of : List Line → List Line → List Line → List Recording → List (List Line) → List Mark
    → Trace
trace_of queues semaphores passes recordings scripts order = record {
  queues = queues;
  resources = line.Buffer 0 64 Exclusive ∷ line.Image 1 1 1 Undefined Exclusive ∷ [];
  semaphores = semaphores;
  events = line.Event 0 ∷ [];
  fences = [];
  passes = passes;
  recordings = recordings;
  lane_scripts = scripts;
  recorder_scripts = (0 ∷ []) ∷ (1 ∷ []) ∷ replicate 14 [];
  text_order = order;
}
