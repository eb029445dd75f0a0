-- A call as the gate keeps it.
use Rattle.std.specs.Prelude.{◌≡◌, ℕ, List, [], ◌++◌, Bool, true, false, Option, Some, None, slice_get}
use Rattle.std.specs.Prelude.{slice_index_or}
use Rattle.std.specs.List.{list_all}
use Rattle.sv_model.specs.declared.line.Trace.{Trace}
use Rattle.sv_model.specs.declared.line.Mark.{Mark}
use Rattle.sv_model.specs.declared.line.Mark.TheVariants as mark
use Rattle.sv_model.specs.declared.line.Line.{Line}
use Rattle.sv_model.specs.declared.line.Line.TheVariants as line
use Rattle.sv_model.specs.declared.line.Batch.{Batch}
use Rattle.sv_model.specs.declared.work.Item.{Item}
use Rattle.sv_model.specs.Declarations.{is_fence}
use Rattle.sv_model.specs.Primitives.{Past}
use Rattle.sv_model.specs.Holding.{are_published, is_empty, batches_from, fence_items}
use Rattle.sv_gate.specs.declared.calls.Call.{Call}
use Rattle.sv_gate.specs.declared.calls.Call.TheVariants.{Submit, WaitFence, ResetFence, WaitQueue}
use Rattle.sv_gate.specs.declared.calls.Call.TheVariants.{WaitDevice, Other}

abbrev pub call_in : Line → Call
call_in (line.Submit lane queue batches fence) = Submit queue batches fence
call_in (line.WaitFence lane fence) = WaitFence fence
call_in (line.ResetFence lane fence) = ResetFence fence
call_in (line.WaitQueue lane queue) = WaitQueue queue
call_in (line.WaitDevice lane) = WaitDevice
call_in line = Other

-- the call of that number of a lane
abbrev pub kept_call : List (List Call) → ℕ → ℕ → Option Call
kept_call scripts lane index = slice_get (slice_index_or scripts lane []) index

-- the call that came as that event
abbrev pub kept_of_mark : List (List Call) → Option Mark → Option Call
kept_of_mark scripts (Some (mark.Call lane index)) = kept_call scripts lane index
kept_of_mark scripts other = None

-- What a call sends, and where.

abbrev pub sent_by : ℕ → Call → List Item
sent_by event (Submit queue batches fence) = batches_from queue event 0 batches
    ++ fence_items queue event fence
sent_by event call = []

abbrev pub sent_for : ℕ → Option Call → List Item
sent_for event None = []
sent_for event (Some call) = sent_by event call

abbrev pub queue_by : Call → Option ℕ
queue_by (Submit queue batches fence) = Some queue
queue_by call = None

abbrev pub queue_for : Option Call → Option ℕ
queue_for None = None
queue_for (Some call) = queue_by call

abbrev pub batches_by : Option Call → List Batch
batches_by (Some (Submit queue batches fence)) = batches
batches_by call = []

-- Whether a call may go on.

abbrev pub ready_call : Past → List Mark → List (List Item) → Call → Bool
ready_call p events queues (Submit queue batches fence) = are_published events batches
ready_call p events queues (WaitFence fence) = p.signaled fence
ready_call p events queues (ResetFence fence) = true
ready_call p events queues (WaitQueue queue) = is_empty (slice_index_or queues queue [])
ready_call p events queues WaitDevice = list_all is_empty queues
ready_call p events queues Other = false

-- the fence of a wait is declared
abbrev pub NamesItsFence : Trace → Call → Type 0
NamesItsFence t (WaitFence fence) = is_fence t fence ≡ true
NamesItsFence t call = Unit {0}
