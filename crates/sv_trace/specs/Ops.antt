-- The ops, and the form of each.
use Rattle.std.specs.Prelude.{ℕ, List, [], ◌∷◌, ◌++◌, Option, codes}
use Rattle.serde_json.specs.Data.{Data}
use Rattle.sv_json.specs.declared.found.Found.{Found}
use Rattle.sv_mask.specs.Names.{named}
use Rattle.sv_model.specs.declared.line.Line.{Line}
use Rattle.sv_trace.specs.Lines as form
use Rattle.sv_trace.specs.declared.op.Op.{Op}
use Rattle.sv_trace.specs.declared.op.Op.TheVariants as op

-- what a trace declares
abbrev pub declarations : List (List ℕ × Op)
declarations =
    (codes "version", op.Version)
    ∷ (codes "queue", op.Queue)
    ∷ (codes "buffer", op.Buffer)
    ∷ (codes "image", op.Image)
    ∷ (codes "semaphore", op.Semaphore)
    ∷ (codes "event", op.Event)
    ∷ (codes "fence", op.Fence)
    ∷ (codes "render_pass", op.RenderPass)
    ∷ []

-- what recordings hold outside render scopes, with their begin and end
abbrev pub recording_ops : List (List ℕ × Op)
recording_ops =
    (codes "begin", op.Begin)
    ∷ (codes "end", op.End)
    ∷ (codes "work", op.Work)
    ∷ (codes "barrier", op.Barrier)
    ∷ (codes "set_event", op.SetEvent)
    ∷ (codes "wait_event", op.WaitEvent)
    ∷ (codes "reset_event", op.ResetEvent)
    ∷ []

-- render scopes
abbrev pub scope_ops : List (List ℕ × Op)
scope_ops =
    (codes "begin_rendering", op.BeginRendering)
    ∷ (codes "end_rendering", op.EndRendering)
    ∷ (codes "begin_pass", op.BeginPass)
    ∷ (codes "next_subpass", op.NextSubpass)
    ∷ (codes "end_pass", op.EndPass)
    ∷ []

-- calls of lanes
abbrev pub calls : List (List ℕ × Op)
calls =
    (codes "submit", op.Submit)
    ∷ (codes "wait_fence", op.WaitFence)
    ∷ (codes "reset_fence", op.ResetFence)
    ∷ (codes "wait_queue", op.WaitQueue)
    ∷ (codes "wait_device", op.WaitDevice)
    ∷ []

unfoldable pub op_named : List ℕ → Option Op
op_named = named (declarations ++ recording_ops ++ scope_ops ++ calls)

unfoldable pub form_of : Op → Data → Found Line
form_of op.Version d = form.version_line d
form_of op.Queue d = form.queue_line d
form_of op.Buffer d = form.buffer_line d
form_of op.Image d = form.image_line d
form_of op.Semaphore d = form.semaphore_line d
form_of op.Event d = form.event_line d
form_of op.Fence d = form.fence_line d
form_of op.RenderPass d = form.render_pass_line d
form_of op.Begin d = form.begin_line d
form_of op.End d = form.end_line d
form_of op.Work d = form.work_line d
form_of op.Barrier d = form.barrier_line d
form_of op.SetEvent d = form.set_event_line d
form_of op.WaitEvent d = form.wait_event_line d
form_of op.ResetEvent d = form.reset_event_line d
form_of op.BeginRendering d = form.begin_rendering_line d
form_of op.EndRendering d = form.end_rendering_line d
form_of op.BeginPass d = form.begin_pass_line d
form_of op.NextSubpass d = form.next_subpass_line d
form_of op.EndPass d = form.end_pass_line d
form_of op.Submit d = form.submit_line d
form_of op.WaitFence d = form.wait_fence_line d
form_of op.ResetFence d = form.reset_fence_line d
form_of op.WaitQueue d = form.wait_queue_line d
form_of op.WaitDevice d = form.wait_device_line d
