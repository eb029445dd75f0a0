-- Worked rows: the notes that the definitions give on small traces.
use Rattle.std.specs.Prelude.{ℕ, false, List, [], ◌∷◌, None, Some, Option, replicate}
use Rattle.sv_mask.specs.declared.access.Access16.TheVariants.{ShaderSampledRead, TransferRead, TransferWrite}
use Rattle.sv_mask.specs.declared.layout.Layout.{Layout}
use Rattle.sv_mask.specs.declared.layout.Layout.TheVariants.{Undefined, General, PresentSrc}
use Rattle.sv_mask.specs.declared.layout.Layout.TheVariants.{ShaderReadOnlyOptimal, TransferDstOptimal}
use Rattle.sv_mask.specs.declared.stage.Stage.{Stage}
use Rattle.sv_mask.specs.declared.stage.Stage.TheVariants.{Clear, Copy, FragmentShader}
use Rattle.sv_mask.specs.declared.access.Access16.{Access16}
use Rattle.sv_mask.specs.Names.{stage_word}
use Rattle.sv_model.specs.declared.line.Batch.{Batch}
use Rattle.sv_model.specs.declared.line.Command.{Command}
use Rattle.sv_model.specs.declared.line.Command.TheVariants as command
use Rattle.sv_model.specs.declared.line.Element.{Element}
use Rattle.sv_model.specs.declared.line.Line.{Line}
use Rattle.sv_model.specs.declared.line.Line.TheVariants as line
use Rattle.sv_model.specs.declared.line.Mark.TheVariants.{Publish, Call}
use Rattle.sv_model.specs.declared.line.Part.TheVariants as part
use Rattle.sv_model.specs.declared.line.SemKind.TheVariants.{Binary, Timeline}
use Rattle.sv_model.specs.declared.line.SemaphoreUse.{SemaphoreUse}
use Rattle.sv_model.specs.declared.line.Sharing.TheVariants.{Exclusive}
use Rattle.sv_model.specs.declared.line.Trace.{Trace}
use Rattle.sv_model.specs.declared.work.Access.{Access}
use Rattle.sv_model.specs.declared.work.Area.{Area}
use Rattle.sv_model.specs.declared.work.Area.TheVariants.{Bytes, Image}
use Rattle.sv_model.specs.declared.work.Kind.TheVariants.{Raw}
use Rattle.sv_model.specs.declared.work.Note.{Note}
use Rattle.sv_model.specs.declared.work.Note.TheVariants as note
use Rattle.sv_model.specs.declared.work.Owner.{Owner}
use Rattle.sv_model.specs.declared.work.Owner.TheVariants.{Released}
use Rattle.sv_model.specs.declared.work.OwnerWhat.{OwnerWhat}
use Rattle.sv_model.specs.declared.work.OwnerWhat.TheVariants as action
use Rattle.sv_model.specs.declared.work.Place.{Place}
use Rattle.sv_model.specs.declared.work.Report.{Report}
use Rattle.sv_model.specs.declared.work.What.{What}
use Rattle.sv_model.specs.declared.work.What.TheVariants.{Use}
use Rattle.sv_model.specs.Notes.{AreGreatestNotes, notes_in}
use Rattle.sv_model.specs.Replies.{among}
use Rattle.sv_examples.specs.Rows.{all_commands, copy_barrier, image, one_queue, submit_one, submitted}
use Rattle.sv_examples.specs.Rows.{two_queues}
use Rattle.sv_examples.specs.Steps.{place}
use Rattle.sv_examples.specs.Traces.{batch_of, copy, element, recording, trace_of}

-- the event's reply has these notes, where it has these reports
abbrev pub Notes : Trace → ℕ → List Report → List Note → Type 0
Notes t event reports notes = AreGreatestNotes (among reports (notes_in t t.text_order event)) notes

abbrev pub bytes : ℕ → ℕ → Area
bytes start end = Bytes 0 (record { start = start; end = end })

-- the notes as they are expected: at the event that submits them, behind no report, first in their step
abbrev pub layout_note : Area → Option What → Place → Layout → Layout → ℕ → Note
layout_note area what at declared found step = note.Layout
    (record {
      area = area;
      what = what;
      place = at;
      declared = declared;
      found = found;
      step = step;
      pos = 0;
      part = 0;
      reports_before = 0;
    })

abbrev pub owner_note : Area → OwnerWhat → Place → Owner → ℕ → ℕ → Note
owner_note area what at found step reports = note.Owner
    (record {
      area = area;
      what = what;
      place = at;
      found = found;
      step = step;
      pos = 0;
      part = 0;
      reports_before = reports;
    })

-- An image that is used in a layout in which it is not (usage 20 is shader_sampled_read at fragment_shader).

abbrev pub on_image : Stage → Access16 → Layout → Command
on_image stage access layout = command.Work (record
    { res = 1; stage = stage; access = access; part = part.Image 0 1 0 1; layout = Some layout } ∷ [])

abbrev pub layout_trace : Trace
layout_trace = submitted [] (on_image FragmentShader ShaderSampledRead ShaderReadOnlyOptimal ∷ [])

abbrev pub WrongLayout : Type 0
WrongLayout = Notes layout_trace 1 [] (layout_note image (Some (Use (record { 0 = 20 })))
    (place 1 0 0) ShaderReadOnlyOptimal Undefined 1 ∷ [])

-- Transitions that find what they name give no note: undefined finds anything.

abbrev pub turn : List ℕ → List ℕ → Layout → Layout → Element
turn dst dst_access old new = element [] [] dst dst_access
    (Some (record { res = 1; part = part.Image 0 1 0 1; layouts = Some (old, new); families = None }))

abbrev pub cleared : List Command
cleared = command.Barrier (turn (15 ∷ []) (13 ∷ []) Undefined TransferDstOptimal ∷ [])
    ∷ on_image Clear TransferWrite TransferDstOptimal
    ∷ command.Barrier (turn (8 ∷ []) (4 ∷ []) TransferDstOptimal ShaderReadOnlyOptimal ∷ []) ∷ []

abbrev pub RightLayouts : Type 0
RightLayouts = Notes (submitted [] cleared) 1 [] []

-- Three elements of one barrier: the second finds what the first left; the third has no transition, and
-- finds what the second left.

abbrev pub turns_trace : Trace
turns_trace = submitted [] (command.Barrier (turn (12 ∷ []) (13 ∷ []) Undefined TransferDstOptimal
    ∷ turn (8 ∷ []) [] TransferDstOptimal General ∷ turn (8 ∷ []) [] PresentSrc PresentSrc ∷ []) ∷ [])

abbrev pub OneAfterAnother : Type 0
OneAfterAnother = Notes turns_trace 1 [] (note.Layout
    (record {
      area = image;
      what = None;
      place = place 1 0 0;
      declared = PresentSrc;
      found = General;
      step = 1;
      pos = 2;
      part = 0;
      reports_before = 0;
    }) ∷ [])

-- Two mips of two layers: a note is on one mip (usage 37 is transfer_write at copy).

abbrev pub two_mips : Trace
two_mips = record (submitted [] (command.Work (record {
  res = 1;
  stage = Copy;
  access = TransferWrite;
  part = part.Image 0 2 0 2;
  layout = Some TransferDstOptimal;
} ∷ []) ∷ []))
    { resources = line.Image 1 2 2 Undefined Exclusive ∷ [] }

abbrev pub mip_note : ℕ → Note
mip_note mip = layout_note (Image 1 (record { mip = mip; mips = 1; layer = 0; layers = 2 }))
    (Some (Use (record { 0 = 37 }))) (place 1 0 0) TransferDstOptimal Undefined 1

abbrev pub EachMip : Type 0
EachMip = Notes two_mips 1 [] (mip_note 0 ∷ mip_note 1 ∷ [])

-- A release without its acquire (usage 34 is transfer_read at copy): on another queue, which waits for a
-- semaphore,

abbrev pub released : Command
released = command.Barrier (element (12 ∷ []) (13 ∷ []) [] []
    (Some (record { res = 0; part = part.Bytes 0 16; layouts = None; families = Some (0, 1) })) ∷ [])

abbrev pub whole_use : SemaphoreUse
whole_use = record { sem = 0; value = None; stages = stage_word all_commands }

abbrev pub release_trace : Trace
release_trace = trace_of (line.Queue 0 0 0 ∷ line.Queue 1 1 1 ∷ []) (line.Semaphore 0 Binary None ∷ []) []
    (recording 0 0 (copy TransferWrite 0 16 ∷ released ∷ []) ∷ recording 1 1 (copy TransferRead 0 16 ∷ [])
    ∷ [])
    ((line.Submit 0 0 (record { waits = []; recs = 0 ∷ []; signals = whole_use ∷ [] } ∷ []) None ∷ [])
    ∷ (line.Submit 1 1 (record { waits = whole_use ∷ []; recs = 1 ∷ []; signals = [] } ∷ []) None ∷ [])
    ∷ replicate 14 [])
    (Publish 0 ∷ Publish 1 ∷ Call 0 0 ∷ Call 1 0 ∷ [])

abbrev pub NotAcquired : Type 0
NotAcquired = Notes release_trace 3 [] (owner_note (bytes 0 16) (action.Use (record { 0 = 34 }))
    (place 3 1 0) (Released 0 1) 5 0 ∷ [])

abbrev pub NothingBefore : Type 0
NothingBefore = Notes release_trace 2 [] []

-- and on the same queue, where the read also races: the note stands behind the report.

abbrev pub kept_trace : Trace
kept_trace = submitted [] (copy TransferWrite 0 16 ∷ released ∷ copy TransferRead 0 16 ∷ [])

abbrev pub copy_access : ℕ → ℕ → Place → Access
copy_access step usage at = record {
  area = bytes 0 16;
  what = Use (record { 0 = usage });
  queue = 0;
  sub = None;
  layout = None;
  place = at;
  step = step;
  pos = 0;
}

abbrev pub raced : Report
raced = record {
  area = bytes 0 16;
  later = copy_access 3 34 (place 1 0 2);
  earlier = copy_access 1 37 (place 1 0 0);
  kind = Raw;
}

abbrev pub BehindReport : Type 0
BehindReport = Notes kept_trace 1 (raced ∷ []) (owner_note (bytes 0 16) (action.Use (record { 0 = 34 }))
    (place 1 0 2) (Released 0 1) 3 1 ∷ [])

-- Waits for an event: one that nothing set, and one that another queue set.

abbrev pub unset_trace : Trace
unset_trace = submitted [] (command.WaitEvent 0 ∷ [])

abbrev pub Unset : Type 0
Unset = Notes unset_trace 1 [] (note.Event (record
    { event = 0; place = place 1 0 0; other = None; reports_before = 0 }) ∷ [])

abbrev pub other_set_trace : Trace
other_set_trace = trace_of two_queues [] [] (recording 0 0 (command.SetEvent 0 (copy_barrier ∷ []) ∷ [])
    ∷ recording 1 0 (command.WaitEvent 0 ∷ []) ∷ [])
    ((submit_one ∷ []) ∷ (line.Submit 1 1 (batch_of 1 ∷ []) None ∷ []) ∷ replicate 14 [])
    (Publish 0 ∷ Publish 1 ∷ Call 0 0 ∷ Call 1 0 ∷ [])

abbrev pub SetElsewhere : Type 0
SetElsewhere = Notes other_set_trace 3 [] (note.Event
    (record { event = 0; place = place 3 1 0; other = Some 0; reports_before = 0 }) ∷ [])

-- A signal that does not raise its timeline, and a fence that is signalled twice.

abbrev pub raising_nothing : Batch
raising_nothing = record {
  waits = [];
  recs = [];
  signals = record { sem = 0; value = Some 0; stages = stage_word all_commands } ∷ [];
}

abbrev pub timeline_trace : Trace
timeline_trace = trace_of one_queue (line.Semaphore 0 Timeline (Some 0) ∷ []) [] []
    ((line.Submit 0 0 (raising_nothing ∷ []) None ∷ []) ∷ replicate 15 []) (Call 0 0 ∷ [])

abbrev pub NotRaised : Type 0
NotRaised = Notes timeline_trace 0 [] (note.Timeline
    (record { sem = 0; event = 0; batch = 0; value = 0; current = 0; reports_before = 0 }) ∷ [])

abbrev pub fence_alone : Line
fence_alone = line.Submit 0 0 [] (Some 0)

abbrev pub fence_trace : Trace
fence_trace = record (trace_of one_queue [] [] [] ((fence_alone ∷ fence_alone ∷ []) ∷ replicate 15 [])
    (Call 0 0 ∷ Call 0 1 ∷ [])) { fences = line.Fence 0 false ∷ [] }

abbrev pub SignalledTwice : Type 0
SignalledTwice = Notes fence_trace 1 [] (note.Fence (record { fence = 0; event = 1; reports_before = 0 })
    ∷ [])

-- all of them
pub record NoteRows : Type 0 where
  pub wrong_layout : WrongLayout
  pub right_layouts : RightLayouts
  pub one_after_another : OneAfterAnother
  pub each_mip : EachMip
  pub not_acquired : NotAcquired
  pub nothing_before : NothingBefore
  pub behind_report : BehindReport
  pub unset : Unset
  pub set_elsewhere : SetElsewhere
  pub not_raised : NotRaised
  pub signalled_twice : SignalledTwice
