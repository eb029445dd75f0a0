-- Worked rows: the steps that the definitions give on small traces.
use Rattle.std.specs.Prelude.{ℕ, ◌≡◌, true, false, ◌^◌, ◌+◌, ◌-◌, List, [], ◌∷◌, None, Some, Option}
use Rattle.std.specs.Prelude.{replicate}
use Rattle.std.specs.List.{range_with_len}
use Rattle.sv_mask.specs.Names.{stage_word, access_word}
use Rattle.sv_mask.specs.declared.access.Access16.TheVariants.{TransferRead, TransferWrite}
use Rattle.sv_mask.specs.declared.layout.Layout.{Layout}
use Rattle.sv_mask.specs.declared.layout.Layout.TheVariants.{Undefined, General, ColorAttachmentOptimal}
use Rattle.sv_mask.specs.declared.layout.Layout.TheVariants.{DepthStencilAttachmentOptimal}
use Rattle.sv_mask.specs.declared.layout.Layout.TheVariants.{DepthStencilReadOnlyOptimal}
use Rattle.sv_mask.specs.declared.layout.Layout.TheVariants.{ShaderReadOnlyOptimal, TransferDstOptimal}
use Rattle.sv_model.specs.declared.line.Trace.{Trace}
use Rattle.sv_model.specs.declared.line.Recording.{Recording}
use Rattle.sv_model.specs.declared.line.Command.{Command}
use Rattle.sv_model.specs.declared.line.Command.TheVariants as command
use Rattle.sv_model.specs.declared.line.Line.{Line}
use Rattle.sv_model.specs.declared.line.Line.TheVariants as line
use Rattle.sv_model.specs.declared.line.Part.TheVariants as part
use Rattle.sv_model.specs.declared.line.SemKind.TheVariants.{Binary, Timeline}
use Rattle.sv_model.specs.declared.line.Class.TheVariants.{Color, Depth}
use Rattle.sv_model.specs.declared.line.Load.{Load}
use Rattle.sv_model.specs.declared.line.Load.TheVariants as load
use Rattle.sv_model.specs.declared.line.Store.{Store}
use Rattle.sv_model.specs.declared.line.Store.TheVariants as store
use Rattle.sv_model.specs.declared.line.PassDep.{PassDep}
use Rattle.sv_model.specs.declared.line.Attachment.{Attachment}
use Rattle.sv_model.specs.declared.line.Element.{Element}
use Rattle.sv_model.specs.declared.line.Target.{Target}
use Rattle.sv_model.specs.declared.line.SemaphoreUse.{SemaphoreUse}
use Rattle.sv_model.specs.declared.line.Mark.TheVariants.{Publish, Call}
use Rattle.sv_model.specs.declared.work.Track.TheVariants.{Queue, Sub, Token}
use Rattle.sv_model.specs.declared.work.Area.{Area}
use Rattle.sv_model.specs.declared.work.Area.TheVariants.{Image}
use Rattle.sv_model.specs.declared.work.What.TheVariants.{Use, Transition}
use Rattle.sv_model.specs.declared.work.Place.{Place}
use Rattle.sv_model.specs.declared.work.Access.{Access}
use Rattle.sv_model.specs.declared.work.Group.{Group}
use Rattle.sv_model.specs.declared.work.Old.{Old}
use Rattle.sv_model.specs.declared.work.Step.{Step}
use Rattle.sv_model.specs.declared.work.Step.TheVariants.{Accesses, Groups}
use Rattle.sv_model.specs.declared.work.Item.TheVariants as item
use Rattle.sv_model.specs.declared.work.Held.TheVariants as held
use Rattle.sv_model.specs.Holding.{flow, held_items}
use Rattle.sv_model.specs.Work.{work_steps}
use Rattle.sv_model.specs.Size.{work_size}
use Rattle.sv_examples.specs.Traces.{copy, element, batch_of, recording, trace_of}
use Rattle.sv_examples.specs.Steps.{place, access, dep, group, none, signal_bit, device_stages}

-- the steps of a trace in the text order
abbrev pub steps_of : Trace → List Step
steps_of t = work_steps t t.text_order

-- Two queues with a semaphore: recording 0 writes, recording 1 reads. The signal covers compute_shader, the
-- wait all commands.

abbrev pub two_queues : List Line
two_queues = line.Queue 0 0 0 ∷ line.Queue 1 0 1 ∷ []

abbrev pub compute_alone : List ℕ
compute_alone = 11 ∷ []

abbrev pub all_commands : List ℕ
all_commands = range_with_len 0 16

abbrev pub use_of : Option ℕ → List ℕ → SemaphoreUse
use_of value stages = record { sem = 0; value = value; stages = stage_word stages }

abbrev pub signalling : Option ℕ → Line
signalling value = line.Submit 0 0 (record {
  waits = [];
  recs = 0 ∷ [];
  signals = use_of value compute_alone
      ∷ [];
} ∷ []) None

abbrev pub waiting : Option ℕ → Line
waiting value = line.Submit 1 1 (record {
  waits = use_of value all_commands ∷ [];
  recs = 1 ∷ [];
  signals = [];
} ∷ []) None

abbrev pub write_and_read : List Recording
write_and_read = recording 0 0 (copy TransferWrite 0 16 ∷ []) ∷ recording 1 0 (copy TransferRead 0 16 ∷ [])
    ∷ []

abbrev pub semaphore_trace : Trace
semaphore_trace = trace_of two_queues (line.Semaphore 0 Binary None ∷ []) [] write_and_read
    ((signalling None ∷ []) ∷ (waiting None ∷ []) ∷ replicate 14 [])
    (Publish 0 ∷ Publish 1 ∷ Call 0 0 ∷ Call 1 0 ∷ [])

-- usages 23 to 26 are those at compute_shader, which draw_indirect comes before
abbrev pub signal_group : Place → Step
signal_group at = Groups (group 2 at (dep (Queue 0) (2 ^ 0 + 2 ^ 11) (2 ^ 27 - 2 ^ 23)
    (Token 0) signal_bit 0 None) ∷ [])

abbrev pub wait_group : Place → Step
wait_group at = Groups (group 3 at (dep (Token 0) signal_bit 0 (Queue 1) device_stages (2 ^ 41 - 1) None)
    ∷ [])

-- The submits are the events 2 and 3.
abbrev pub Semaphore : Type 0
Semaphore = steps_of semaphore_trace ≡
    none ∷ access 1 37 0 0 16 (place 2 0 0) ∷ signal_group (place 2 0 0)
    ∷ wait_group (place 3 0 0) ∷ access 4 34 1 0 16 (place 3 1 0) ∷ none ∷ []

-- The wait first: the timeline wait for 1 is held until the signal of 1 is processed.

abbrev pub wait_first_trace : Trace
wait_first_trace = trace_of two_queues (line.Semaphore 0 Timeline (Some 0) ∷ []) [] write_and_read
    ((signalling (Some 1) ∷ []) ∷ (waiting (Some 1) ∷ []) ∷ replicate 14 [])
    (Publish 0 ∷ Publish 1 ∷ Call 1 0 ∷ Call 0 0 ∷ [])

abbrev pub WaitFirst : Type 0
WaitFirst = steps_of wait_first_trace ≡
    none ∷ access 1 37 0 0 16 (place 3 0 0) ∷ signal_group (place 3 0 0)
    ∷ wait_group (place 2 0 0) ∷ access 4 34 1 0 16 (place 2 1 0) ∷ none ∷ []

-- Event 3 releases its own batch, and then the one that event 2 brought.
abbrev pub WaitFirstItems : Type 0
WaitFirstItems = (flow wait_first_trace wait_first_trace.text_order).done ≡
    record { item = item.Call 1 0; event = 2 } ∷ record { item = item.Call 0 0; event = 3 }
    ∷ record { item = item.Batch 0 3 0; event = 3 } ∷ record { item = item.Batch 1 2 0; event = 3 } ∷ []

-- One queue with one recording of the family 0, submitted once as event 1.

abbrev pub one_queue : List Line
one_queue = line.Queue 0 0 0 ∷ []

abbrev pub submit_one : Line
submit_one = line.Submit 0 0 (batch_of 0 ∷ []) None

abbrev pub submitted : List Line → List Command → Trace
submitted passes commands = trace_of one_queue [] passes (recording 0 0 commands ∷ [])
    ((submit_one ∷ []) ∷ replicate 15 []) (Publish 0 ∷ Call 0 0 ∷ [])

-- An event: the second write comes after the set.

abbrev pub copy_barrier : Element
copy_barrier = element (12 ∷ []) (13 ∷ []) (12 ∷ []) (12 ∷ []) None

abbrev pub event_trace : Trace
event_trace = submitted [] (copy TransferWrite 0 16 ∷ command.SetEvent 0 (copy_barrier ∷ [])
    ∷ copy TransferWrite 16 32 ∷ command.WaitEvent 0 ∷ copy TransferRead 0 32 ∷ [])

abbrev pub Event : Type 0
Event = steps_of event_trace ≡
    none ∷ access 1 37 0 0 16 (place 1 0 0)
    ∷ Groups (group 2 (place 1 0 1) (dep (Queue 0) (2 ^ 12) (2 ^ 37) (Token 0) signal_bit 0 None) ∷ [])
    ∷ access 3 37 0 16 32 (place 1 0 2)
    ∷ Groups (group 4 (place 1 0 3) (dep (Token 0) signal_bit 0 (Queue 0) (2 ^ 12) (2 ^ 34) None) ∷ [])
    ∷ access 5 34 0 0 32 (place 1 0 4) ∷ none ∷ []

-- A render pass with implicit dependencies: one attachment, cleared and stored, and no dependency.

abbrev pub image : Area
image = Image 1 (record { mip = 0; mips = 1; layer = 0; layers = 1 })

abbrev pub pass_line : Line
pass_line = line.RenderPass 0 (record {
  class = Color;
  load = load.Clear;
  store = store.Store;
  initial = Undefined;
  becomes = ShaderReadOnlyOptimal;
} ∷ [])
    ((record { att = 0; layout = ColorAttachmentOptimal } ∷ []) ∷ []) []

abbrev pub pass_trace : Trace
pass_trace = submitted (pass_line ∷ []) (command.BeginPass 0
    (record { res = 1; mip = 0; layer = 0; layers = 1 } ∷ []) ∷ command.EndPass ∷ [])

abbrev pub transition : ℕ → ℕ → Place → Access
transition step queue at = record {
  area = image;
  what = Transition;
  queue = queue;
  sub = None;
  layout = None;
  place = at;
  step = step;
  pos = 0;
}

abbrev pub attachment_access : ℕ → Place → Step
attachment_access step at = Accesses (record {
  area = image;
  what = Use (record { 0 = 29 });
  queue = 0;
  sub = Some (0, 0);
  layout = Some ColorAttachmentOptimal;
  place = at;
  step = step;
  pos = 0;
} ∷ [])

abbrev pub old : Layout → Layout → Old
old was becomes = record { area = image; was = was; becomes = becomes }

-- usages 27 to 33 are the input, colour and depth attachment accesses
abbrev pub attachment_usages : ℕ
attachment_usages = 2 ^ 34 - 2 ^ 27

abbrev pub RenderPass : Type 0
RenderPass = steps_of pass_trace ≡
    none
    ∷ Groups (record (group 1 (place 1 0 0) (dep (Queue 0) 0 0 (Sub 0 0 0)
    (device_stages + signal_bit) attachment_usages None))
    { transitions = transition 1 0 (place 1 0 0) ∷ []; olds = old Undefined ColorAttachmentOptimal ∷ [] }
    ∷ [])
    ∷ attachment_access 2 (place 1 0 0)
    ∷ attachment_access 3 (place 1 0 1)
    ∷ Groups (record (group 4 (place 1 0 1) (dep (Sub 0 0 0) device_stages attachment_usages
    (Queue 0) signal_bit 0 None)) {
      transitions = transition 4 0 (place 1 0 1) ∷ [];
      olds = old ColorAttachmentOptimal ShaderReadOnlyOptimal ∷ [];
    } ∷ [])
    ∷ none ∷ []

-- Two subpasses with a dependency to the first and one from the first to the second, where the layout
-- changes.

abbrev pub external_dep : PassDep
external_dep = record {
  from = None;
  to = Some 0;
  src = stage_word (12 ∷ []);
  src_access = access_word (13 ∷ []);
  dst = stage_word (8 ∷ []);
  dst_access = access_word (5 ∷ []);
}

abbrev pub onward_dep : PassDep
onward_dep = record {
  from = Some 0;
  to = Some 1;
  src = stage_word (8 ∷ []);
  src_access = access_word [];
  dst = stage_word (8 ∷ []);
  dst_access = access_word (5 ∷ []);
}

abbrev pub depth_line : Line
depth_line = line.RenderPass 0
    (record {
      class = Depth;
      load = load.Load;
      store = store.DontCare;
      initial = DepthStencilAttachmentOptimal;
      becomes = General;
    } ∷ [])
    ((record { att = 0; layout = DepthStencilAttachmentOptimal } ∷ [])
    ∷ (record { att = 0; layout = DepthStencilReadOnlyOptimal } ∷ []) ∷ [])
    (external_dep ∷ onward_dep ∷ [])

abbrev pub subpass_trace : Trace
subpass_trace = submitted (depth_line ∷ []) (command.BeginPass 0
    (record { res = 1; mip = 0; layer = 0; layers = 1 } ∷ []) ∷ command.NextSubpass ∷ command.EndPass ∷ [])

abbrev pub depth_access : ℕ → ℕ → ℕ × ℕ → Layout → Place → Step
depth_access step usage sub layout at = Accesses (record {
  area = image;
  what = Use (record { 0 = usage });
  queue = 0;
  sub = Some sub;
  layout = Some layout;
  place = at;
  step = step;
  pos = 0;
} ∷ [])

abbrev pub empty_group : ℕ → Place → Group
empty_group step at = record {
  step = step;
  place = at;
  deps = [];
  transitions = [];
  olds = [];
  transfer = None;
}

-- fragment_shader is stage 8, its shader_storage_read usage 21
abbrev pub Subpasses : Type 0
Subpasses = steps_of subpass_trace ≡
    none
    ∷ Groups (group 1 (place 1 0 0) (dep (Queue 0) (2 ^ 12) (2 ^ 37) (Sub 0 0 0) (2 ^ 11 - 2 ^ 8)
    (2 ^ 21) None) ∷ empty_group 1 (place 1 0 0) ∷ [])
    ∷ depth_access 2 30 (0, 0) DepthStencilAttachmentOptimal (place 1 0 0)
    ∷ Groups (record (group 3 (place 1 0 1) (dep (Sub 0 0 0) (2 ^ 9 - 1) 0 (Sub 0 0 1)
    (2 ^ 11 - 2 ^ 8 + signal_bit) (2 ^ 21) None)) {
      transitions = transition 3 0 (place 1 0 1) ∷ [];
      olds = old DepthStencilAttachmentOptimal DepthStencilReadOnlyOptimal ∷ [];
    } ∷ [])
    ∷ depth_access 4 33 (0, 1) DepthStencilReadOnlyOptimal (place 1 0 2)
    ∷ Groups (empty_group 5 (place 1 0 2) ∷ record
    (group 5 (place 1 0 2) (dep (Sub 0 0 1) device_stages attachment_usages (Queue 0) signal_bit 0 None)) {
      transitions = transition 5 0 (place 1 0 2) ∷ [];
      olds = old DepthStencilReadOnlyOptimal General
          ∷ [];
    } ∷ [])
    ∷ none ∷ []

-- Dynamic rendering twice: cleared and stored, then loaded and not stored.

abbrev pub depth_attachment : Load → Store → Attachment
depth_attachment loaded stored = record {
  res = 1;
  class = Depth;
  mip = 0;
  layer = 0;
  layers = 1;
  layout = DepthStencilAttachmentOptimal;
  load = loaded;
  store = stored;
}

abbrev pub rendering_trace : Trace
rendering_trace = submitted [] (command.BeginRendering (depth_attachment load.Clear store.Store ∷ [])
    ∷ command.EndRendering ∷ command.BeginRendering (depth_attachment load.Load store.Nothing ∷ [])
    ∷ command.EndRendering ∷ [])

abbrev pub Rendering : Type 0
Rendering = steps_of rendering_trace ≡
    none
    ∷ depth_access 1 31 (0, 0) DepthStencilAttachmentOptimal (place 1 0 0)
    ∷ depth_access 2 33 (0, 0) DepthStencilAttachmentOptimal (place 1 0 1)
    ∷ depth_access 3 30 (1, 0) DepthStencilAttachmentOptimal (place 1 0 2)
    ∷ none ∷ []

-- A release by family 0, and the acquire by family 1, which does the transition.

abbrev pub handed_over : Target
handed_over = record {
  res = 1;
  part = part.Image 0 1 0 1;
  layouts = Some (TransferDstOptimal, ShaderReadOnlyOptimal);
  families = Some (0, 1);
}

-- from transfer_write at copy to shader_sampled_read at fragment_shader
abbrev pub handing_over : Command
handing_over = command.Barrier (element (12 ∷ []) (13 ∷ []) (8 ∷ []) (4 ∷ []) (Some handed_over) ∷ [])

abbrev pub acquire_trace : Trace
acquire_trace = trace_of (line.Queue 0 0 0 ∷ line.Queue 1 1 1 ∷ []) [] []
    (recording 0 0 (handing_over ∷ []) ∷ recording 1 1 (handing_over ∷ []) ∷ [])
    ((submit_one ∷ []) ∷ (line.Submit 1 1 (batch_of 1 ∷ []) None ∷ []) ∷ replicate 14 [])
    (Publish 0 ∷ Publish 1 ∷ Call 0 0 ∷ Call 1 0 ∷ [])

abbrev pub Acquire : Type 0
Acquire = steps_of acquire_trace ≡
    none
    ∷ Groups (record (group 1 (place 2 0 0) (dep (Queue 0) (2 ^ 12) (2 ^ 37) (Queue 0) (2 ^ 11 - 2 ^ 8) 0
    (Some image))) {
      olds = old TransferDstOptimal ShaderReadOnlyOptimal ∷ [];
      transfer = Some (record { release = true; from = 0; to = 1; area = image });
    } ∷ [])
    ∷ none ∷ none
    ∷ Groups (record (group 4 (place 3 1 0) (dep (Queue 1) (2 ^ 12) 0 (Queue 1)
    (2 ^ 11 - 2 ^ 8 + signal_bit) (2 ^ 20) (Some image))) {
      transitions = transition 4 1 (place 3 1 0) ∷ [];
      olds = old TransferDstOptimal ShaderReadOnlyOptimal
          ∷ [];
      transfer = Some (record { release = false; from = 0; to = 1; area = image });
    } ∷ [])
    ∷ none ∷ []

-- A recording that is submitted twice.

abbrev pub twice_trace : Trace
twice_trace = trace_of one_queue [] [] (recording 0 0
    (copy TransferWrite 0 16 ∷ command.Barrier (copy_barrier ∷ []) ∷ copy TransferRead 0 16 ∷ []) ∷ [])
    ((submit_one ∷ submit_one ∷ []) ∷ replicate 15 [])
    (Publish 0 ∷ Call 0 0 ∷ Call 0 1 ∷ [])

abbrev pub barrier_group : ℕ → Place → Step
barrier_group step at = Groups (group step at (dep (Queue 0) (2 ^ 12) (2 ^ 37) (Queue 0) (2 ^ 12)
    (2 ^ 34) None) ∷ [])

abbrev pub Twice : Type 0
Twice = steps_of twice_trace ≡
    none ∷ access 1 37 0 0 16 (place 1 0 0) ∷ barrier_group 2 (place 1 0 1)
    ∷ access 3 34 0 0 16 (place 1 0 2) ∷ none
    ∷ none ∷ access 6 37 0 0 16 (place 2 0 0) ∷ barrier_group 7 (place 2 0 1)
    ∷ access 8 34 0 0 16 (place 2 0 2) ∷ none ∷ []

-- Each submit has its batch, and of the recording three steps, two accesses and a dependency.
abbrev pub TwiceSize : Type 0
TwiceSize = work_size twice_trace ≡ 14

-- Sparse numbers: recording 65535 by recorder 7 on queue 3 with lane 5.

abbrev pub sparse_trace : Trace
sparse_trace = record (trace_of (line.Queue 3 9 5 ∷ []) [] []
    (record { rec = 65535; recorder = 7; family = 9; commands = copy TransferWrite 0 16 ∷ [] } ∷ [])
    ([] ∷ [] ∷ [] ∷ [] ∷ [] ∷ (line.Submit 5 3 (batch_of 65535 ∷ []) None ∷ []) ∷ replicate 10 [])
    (Publish 65535 ∷ Call 5 0 ∷ [])) {
      recorder_scripts = [] ∷ [] ∷ [] ∷ [] ∷ [] ∷ [] ∷ [] ∷ (65535 ∷ [])
          ∷ replicate 8 [];
    }

abbrev pub Sparse : Type 0
Sparse = steps_of sparse_trace ≡ none ∷ access 1 37 3 0 16 (place 1 65535 0) ∷ none ∷ []

-- A wait for a fence that nothing signals is held, and the call behind it.

abbrev pub held_trace : Trace
held_trace = record (submitted [] []) {
  fences = line.Fence 0 false ∷ [];
  lane_scripts = (line.WaitFence 0 0 ∷ submit_one ∷ []) ∷ replicate 15 [];
  text_order = Call 0 0 ∷ Publish 0 ∷ Call 0 1
      ∷ [];
}

abbrev pub IsHeld : Type 0
IsHeld = held_items held_trace held_trace.text_order ≡ held.Call 0 0 ∷ held.Call 0 1 ∷ []

-- A host wait for a fence: its signal covers all of its queue, the wait goes on to each queue.

abbrev pub fence_trace : Trace
fence_trace = record (trace_of two_queues [] [] (recording 0 0 [] ∷ [])
    ((line.Submit 0 0 [] (Some 0) ∷ line.WaitFence 0 0 ∷ []) ∷ replicate 15 [])
    (Publish 0 ∷ Call 0 0 ∷ Call 0 1 ∷ [])) { fences = line.Fence 0 false ∷ [] }

abbrev pub FenceWait : Type 0
FenceWait = steps_of fence_trace ≡
    Groups (group 0 (place 1 0 0) (dep (Queue 0) (device_stages + signal_bit) (2 ^ 41 - 1)
    (Token 0) signal_bit 0 None) ∷ [])
    ∷ Groups (group 1 (place 2 0 0) (dep (Token 0) signal_bit 0 (Queue 0) device_stages (2 ^ 41 - 1) None)
    ∷ group 1 (place 2 0 0) (dep (Token 0) signal_bit 0 (Queue 1) device_stages (2 ^ 41 - 1) None) ∷ [])
    ∷ []

-- all of them
pub record Rows : Type 0 where
  pub semaphore : Semaphore
  pub wait_first : WaitFirst
  pub wait_first_items : WaitFirstItems
  pub event : Event
  pub render_pass : RenderPass
  pub subpasses : Subpasses
  pub rendering : Rendering
  pub acquire : Acquire
  pub twice : Twice
  pub twice_size : TwiceSize
  pub sparse : Sparse
  pub is_held : IsHeld
  pub fence_wait : FenceWait
