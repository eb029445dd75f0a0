-- What a line names, and what it declares.
use Rattle.std.specs.Prelude.{ℕ, Bool, false, not, ◌||◌, Option, Some, None, is_none}
use Rattle.std.specs.List.{list_any}
use Rattle.sv_model.specs.declared.line.Line.{Line}
use Rattle.sv_model.specs.declared.line.Line.TheVariants as line
use Rattle.sv_model.specs.declared.line.Batch.{Batch}
use Rattle.sv_model.specs.declared.line.SemaphoreUse.{SemaphoreUse}
use Rattle.sv_model.specs.declared.line.Part.{Part}
use Rattle.sv_model.specs.declared.line.Trace.{Trace}
use Rattle.sv_model.specs.Declarations.{resource_of, semaphore_kind, is_event, is_fence, is_pass}
use Rattle.sv_model.specs.Declarations.{recording_of}
use Rattle.sv_rules.specs.Taken.{queue_in, recording_at}
use Rattle.sv_rules.specs.PartRules.{some_part}

-- Whether a number is one that no earlier line declares.

unfoldable pub is_new_queue : Trace → ℕ → Bool
is_new_queue t queue = is_none (queue_in t queue)

unfoldable pub is_new_resource : Trace → ℕ → Bool
is_new_resource t res = is_none (resource_of t res)

unfoldable pub is_new_semaphore : Trace → ℕ → Bool
is_new_semaphore t sem = is_none (semaphore_kind t sem)

unfoldable pub is_new_event : Trace → ℕ → Bool
is_new_event t event = not (is_event t event)

unfoldable pub is_new_fence : Trace → ℕ → Bool
is_new_fence t fence = not (is_fence t fence)

unfoldable pub is_new_pass : Trace → ℕ → Bool
is_new_pass t pass = not (is_pass t pass)

unfoldable pub is_new_recording : Trace → ℕ → Bool
is_new_recording t rec = is_none (recording_of t rec)

-- Whether a line names a new one, kind by kind.

abbrev pub names_new_queue : Trace → Line → Bool
names_new_queue t (line.Submit lane queue batches fence) = is_new_queue t queue
names_new_queue t (line.WaitQueue lane queue) = is_new_queue t queue
names_new_queue t other = false

abbrev pub is_on_new : Trace → ℕ → Part → Bool
is_on_new t res part = is_new_resource t res

abbrev pub names_new_resource : Trace → Line → Bool
names_new_resource t line = some_part (is_on_new t) line

abbrev pub is_of_new_semaphore : Trace → SemaphoreUse → Bool
is_of_new_semaphore t u = is_new_semaphore t u.sem

abbrev pub batch_names_new_semaphore : Trace → Batch → Bool
batch_names_new_semaphore t b = list_any (is_of_new_semaphore t) b.waits
    || list_any (is_of_new_semaphore t) b.signals

abbrev pub names_new_semaphore : Trace → Line → Bool
names_new_semaphore t (line.Submit lane queue batches fence) = list_any (batch_names_new_semaphore t) batches
names_new_semaphore t other = false

abbrev pub names_new_event : Trace → Line → Bool
names_new_event t (line.SetEvent rec event deps) = is_new_event t event
names_new_event t (line.WaitEvent rec event) = is_new_event t event
names_new_event t (line.ResetEvent rec event) = is_new_event t event
names_new_event t other = false

abbrev pub is_new_signal : Trace → Option ℕ → Bool
is_new_signal t None = false
is_new_signal t (Some fence) = is_new_fence t fence

abbrev pub names_new_fence : Trace → Line → Bool
names_new_fence t (line.Submit lane queue batches fence) = is_new_signal t fence
names_new_fence t (line.WaitFence lane fence) = is_new_fence t fence
names_new_fence t (line.ResetFence lane fence) = is_new_fence t fence
names_new_fence t other = false

abbrev pub names_new_pass : Trace → Line → Bool
names_new_pass t (line.BeginPass rec pass views) = is_new_pass t pass
names_new_pass t other = false

abbrev pub batch_names_new_recording : Trace → Batch → Bool
batch_names_new_recording t b = list_any (is_new_recording t) b.recs

abbrev pub submits_new_recording : Trace → Line → Bool
submits_new_recording t (line.Submit lane queue batches fence) =
    list_any (batch_names_new_recording t) batches
submits_new_recording t other = false

abbrev pub is_new_if_any : Trace → Option ℕ → Bool
is_new_if_any t None = false
is_new_if_any t (Some rec) = is_new_recording t rec

-- it is a command or the end of one
abbrev pub goes_on_in_new_recording : Trace → Line → Bool
goes_on_in_new_recording t line = is_new_if_any t (recording_at line)

-- It names a queue, resource, semaphore, event, fence, pass or recording that no earlier line declares.
unfoldable pub is_undeclared : Trace → Line → Bool
is_undeclared t line =
    names_new_queue t line || names_new_resource t line || names_new_semaphore t line
    || names_new_event t line
    || names_new_fence t line || names_new_pass t line || goes_on_in_new_recording t line
    || submits_new_recording t line

-- It declares one that an earlier line declares. Buffers and images share one numbering.
unfoldable pub is_declared_twice : Trace → Line → Bool
is_declared_twice t (line.Queue queue family lane) = not (is_new_queue t queue)
is_declared_twice t (line.Buffer res size sharing) = not (is_new_resource t res)
is_declared_twice t (line.Image res mips layers initial sharing) = not (is_new_resource t res)
is_declared_twice t (line.Semaphore sem kind initial) = not (is_new_semaphore t sem)
is_declared_twice t (line.Event event) = not (is_new_event t event)
is_declared_twice t (line.Fence fence signaled) = not (is_new_fence t fence)
is_declared_twice t (line.RenderPass pass attachments subpasses deps) = not (is_new_pass t pass)
is_declared_twice t (line.Begin rec recorder family) = not (is_new_recording t rec)
is_declared_twice t other = false
