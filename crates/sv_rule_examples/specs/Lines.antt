-- Lines of small texts.
use Rattle.std.specs.Prelude.{ℕ, false, List, [], ◌∷◌, ◌++◌, Option, None, Some, reverse}
use Rattle.sv_mask.specs.Names.{stage_word, access_word}
use Rattle.sv_mask.specs.declared.stage.Stage.{Stage}
use Rattle.sv_mask.specs.declared.stage.Stage.TheVariants as stage
use Rattle.sv_mask.specs.declared.access.Access16.{Access16}
use Rattle.sv_mask.specs.declared.access.Access16.TheVariants as access
use Rattle.sv_mask.specs.declared.layout.Layout.{Layout}
use Rattle.sv_mask.specs.declared.layout.Layout.TheVariants as layout
use Rattle.sv_model.specs.declared.line.Line.{Line}
use Rattle.sv_model.specs.declared.line.Line.TheVariants as line
use Rattle.sv_model.specs.declared.line.Declared.{Declared}
use Rattle.sv_model.specs.declared.line.Element.{Element}
use Rattle.sv_model.specs.declared.line.Target.{Target}
use Rattle.sv_model.specs.declared.line.Batch.{Batch}
use Rattle.sv_model.specs.declared.line.SemaphoreUse.{SemaphoreUse}
use Rattle.sv_model.specs.declared.line.PassDep.{PassDep}
use Rattle.sv_model.specs.declared.line.Part.{Part}
use Rattle.sv_model.specs.declared.line.Part.TheVariants as part
use Rattle.sv_model.specs.declared.line.Sharing.TheVariants.{Exclusive}
use Rattle.sv_model.specs.declared.line.SemKind.TheVariants.{Binary, Timeline}
use Rattle.sv_model.specs.declared.refusal.Cause.{Cause}
use Rattle.sv_rules.specs.Taken.{taken_of}
use Rattle.sv_rules.specs.Causes.{rule_cause}

-- why a line is refused after these lines, which stand in the order of the text
abbrev pub cause_after : List Line → Line → Option Cause
cause_after before line = rule_cause (taken_of (reverse before)) line

-- queue 0 of family 0 with lane 0, queue 1 of family 1 with lane 1, buffer 0 of 64 bytes, image 1 of one
-- mip and two layers, a binary and a timeline semaphore, an event, a fence
abbrev pub declarations : List Line
declarations =
    line.Queue 0 0 0 ∷ line.Queue 1 1 1 ∷ line.Buffer 0 64 Exclusive
    ∷ line.Image 1 1 2 layout.Undefined Exclusive
    ∷ line.Semaphore 0 Binary None ∷ line.Semaphore 1 Timeline (Some 0) ∷ line.Event 0 ∷ line.Fence 0 false
    ∷ []

abbrev pub bytes : Stage → Access16 → ℕ → ℕ → Declared
bytes at by start end = record {
  res = 0;
  stage = at;
  access = by;
  part = part.Bytes start end;
  layout = None;
}

abbrev pub texels : Stage → Access16 → ℕ → ℕ → Declared
texels at by layer layers = record {
  res = 1;
  stage = at;
  access = by;
  part = part.Image 0 1 layer layers;
  layout = Some layout.General;
}

-- a work of recording 0 that copies from bytes of buffer 0
abbrev pub copies : ℕ → ℕ → Line
copies start end = line.Work 0 (bytes stage.Copy access.TransferRead start end ∷ [])

abbrev pub copying : Line
copying = copies 0 16

-- an element from transfer_write at copy to transfer_read at copy
abbrev pub copy_element : Option Target → Element
copy_element target = record {
  src = stage_word (12 ∷ []);
  src_access = access_word (13 ∷ []);
  dst = stage_word (12 ∷ []);
  dst_access = access_word (12 ∷ []);
  target = target;
}

-- an element from the fragment shader to itself
abbrev pub shader_element : Option Target → Element
shader_element target = record {
  src = stage_word (8 ∷ []);
  src_access = access_word (6 ∷ []);
  dst = stage_word (8 ∷ []);
  dst_access = access_word (5 ∷ []);
  target = target;
}

abbrev pub on_buffer : Option (ℕ × ℕ) → Target
on_buffer families = record { res = 0; part = part.Bytes 0 16; layouts = None; families = families }

abbrev pub on_image : Option (Layout × Layout) → Target
on_image layouts = record { res = 1; part = part.Image 0 1 0 1; layouts = layouts; families = None }

-- a pass without attachments, with two subpasses and a dependency of the first on itself at the fragment
-- shader
abbrev pub own_dep : PassDep
own_dep = record {
  from = Some 0;
  to = Some 0;
  src = stage_word (8 ∷ []);
  src_access = access_word (6 ∷ []);
  dst = stage_word (8 ∷ []);
  dst_access = access_word (5 ∷ []);
}

abbrev pub pass_line : Line
pass_line = line.RenderPass 0 [] ([] ∷ [] ∷ []) (own_dep ∷ [])

abbrev pub begin : Line
begin = line.Begin 0 0 0

-- the lines up to an open recording, and inside its render scopes
abbrev pub recording : List Line
recording = declarations ++ pass_line ∷ begin ∷ []

abbrev pub rendering : List Line
rendering = recording ++ line.BeginRendering 0 [] ∷ []

abbrev pub subpass : List Line
subpass = recording ++ line.BeginPass 0 0 [] ∷ []

-- the lines up to the end of recording 0, of one work
abbrev pub recorded : List Line
recorded = recording ++ copying ∷ line.End 0 ∷ []

abbrev pub batch_of : List ℕ → Batch
batch_of recs = record { waits = []; recs = recs; signals = [] }

abbrev pub signal_of : ℕ → Option ℕ → Batch
signal_of sem value = record {
  waits = [];
  recs = [];
  signals = record { sem = sem; value = value; stages = stage_word (12 ∷ []) } ∷ [];
}

abbrev pub submit_of : Batch → Line
submit_of batch = line.Submit 0 0 (batch ∷ []) None
