-- The forms of the lines, in the order of docs/TRACE.md.
use Rattle.std.specs.Prelude.{ℕ, List, [], ◌∷◌, length, Bool, true, false, ◌&&◌, nat_lt, nat_le, Option}
use Rattle.std.specs.Prelude.{None, Some, codes}
use Rattle.std.specs.List.{list_all}
use Rattle.serde_json.specs.Data.{Data}
use Rattle.sv_json.specs.declared.found.Found.{Found}
use Rattle.sv_json.specs.declared.found.Flaw.TheVariants.{Shape, Range}
use Rattle.sv_json.specs.Form.{any_number, between, truth, list, member, maybe, or_else, made, ◌and◌, checked}
use Rattle.sv_mask.specs.declared.layout.Layout.TheVariants.{Undefined}
use Rattle.sv_model.specs.declared.line.Line.{Line}
use Rattle.sv_model.specs.declared.line.Line.TheVariants as line
use Rattle.sv_model.specs.declared.line.PassAttachment.{PassAttachment}
use Rattle.sv_model.specs.declared.line.PassUse.{PassUse}
use Rattle.sv_model.specs.declared.line.PassDep.{PassDep}
use Rattle.sv_model.specs.declared.line.Sharing.TheVariants.{Exclusive}
use Rattle.sv_parts.specs.Names as name
use Rattle.sv_parts.specs.Parts.{slot, number, access, element, attachment, view, pass_attachment, subpass}
use Rattle.sv_parts.specs.Parts.{pass_dep, batch}

-- ---- declarations

unfoldable pub version_line : Data → Found Line
version_line d = made line.Version (member (codes "number") (between 1 1)) d

unfoldable pub queue_line : Data → Found Line
queue_line d = (made (λ queue family lane. line.Queue queue family lane)
    (member (codes "queue") slot) and member (codes "family") number and member (codes "lane") slot) d

unfoldable pub buffer_line : Data → Found Line
buffer_line d = (made (λ res size sharing. line.Buffer res size sharing)
    (member (codes "res") number) and member (codes "size") (between 1 1099511627776) and or_else
    (codes "sharing") name.sharing Exclusive) d

unfoldable pub image_line : Data → Found Line
image_line d = (made (λ res mips layers initial sharing. line.Image res mips layers initial sharing)
    (member (codes "res") number)
    and member (codes "mips") (between 1 16)
    and member (codes "layers") (between 1 2048)
    and or_else (codes "initial") name.first_layout Undefined
    and or_else (codes "sharing") name.sharing Exclusive) d

-- a missing `initial` of a timeline is 0, and of a binary semaphore nothing
unfoldable pub semaphore_line : Data → Found Line
semaphore_line d = (made (λ sem kind initial. line.Semaphore sem kind initial)
    (member (codes "sem") number) and member (codes "kind") name.kind and maybe
    (codes "initial") any_number) d

unfoldable pub event_line : Data → Found Line
event_line d = made line.Event (member (codes "event") number) d

unfoldable pub fence_line : Data → Found Line
fence_line d = (made (λ fence signaled. line.Fence fence signaled)
    (member (codes "fence") number) and or_else (codes "signaled") truth false) d

-- a use names an attachment of the pass
abbrev pub use_fits : ℕ → PassUse → Bool
use_fits attachments it = nat_lt it.att attachments

abbrev pub end_fits : ℕ → Option ℕ → Bool
end_fits subpasses None = true
end_fits subpasses (Some n) = nat_lt n subpasses

-- not from a later to an earlier subpass
abbrev pub in_order : Option ℕ → Option ℕ → Bool
in_order None to = true
in_order (Some from) None = true
in_order (Some from) (Some to) = nat_le from to

abbrev pub dep_fits : ℕ → PassDep → Bool
dep_fits subpasses dep = end_fits subpasses dep.from && end_fits subpasses dep.to && in_order dep.from dep.to

-- the numbers of attachments and subpasses are below the lengths of the lists
unfoldable pub lists_fit : List PassAttachment → List (List PassUse) → List PassDep → Bool
lists_fit attachments subpasses deps =
    list_all (list_all (use_fits (length attachments))) subpasses && list_all
    (dep_fits (length subpasses)) deps

abbrev pub has_some : {A : Type 0} → List A → Bool
has_some [] = false
has_some (x ∷ xs) = true

-- one subpass at least
unfoldable pub subpasses : Data → Found (List (List PassUse))
subpasses d = checked Shape has_some (member (codes "subpasses") (list subpass)) d

-- the lists of a render pass
abbrev pub PassLists : Type 0
PassLists = List PassAttachment × List (List PassUse) × List PassDep

unfoldable pub pass_lists : Data → Found PassLists
pass_lists d = checked Range (λ it. lists_fit it.0 it.1 it.2)
    (made (λ attachments subpasses deps. (attachments, subpasses, deps))
    (member (codes "attachments") (list pass_attachment))
    and subpasses
    and member (codes "deps") (list pass_dep)) d

unfoldable pub render_pass_line : Data → Found Line
render_pass_line d = (made (λ pass it. line.RenderPass pass it.0 it.1 it.2)
    (member (codes "pass") number) and pass_lists) d

-- ---- recordings

unfoldable pub begin_line : Data → Found Line
begin_line d = (made (λ rec recorder family. line.Begin rec recorder family)
    (member (codes "rec") number) and member (codes "recorder") slot and member (codes "family") number) d

unfoldable pub end_line : Data → Found Line
end_line d = made line.End (member (codes "rec") number) d

unfoldable pub work_line : Data → Found Line
work_line d = (made (λ rec accesses. line.Work rec accesses) (member (codes "rec") number) and member
    (codes "accesses") (list access)) d

unfoldable pub barrier_line : Data → Found Line
barrier_line d = (made (λ rec deps. line.Barrier rec deps) (member (codes "rec") number) and member
    (codes "deps") (list element)) d

unfoldable pub set_event_line : Data → Found Line
set_event_line d = (made (λ rec event deps. line.SetEvent rec event deps)
    (member (codes "rec") number) and member (codes "event") number and member (codes "deps")
    (list element)) d

unfoldable pub wait_event_line : Data → Found Line
wait_event_line d = (made (λ rec event. line.WaitEvent rec event) (member (codes "rec") number) and member
    (codes "event") number) d

unfoldable pub reset_event_line : Data → Found Line
reset_event_line d = (made (λ rec event. line.ResetEvent rec event) (member (codes "rec") number) and member
    (codes "event") number) d

unfoldable pub begin_rendering_line : Data → Found Line
begin_rendering_line d = (made (λ rec attachments. line.BeginRendering rec attachments)
    (member (codes "rec") number) and member (codes "attachments") (list attachment)) d

unfoldable pub end_rendering_line : Data → Found Line
end_rendering_line d = made line.EndRendering (member (codes "rec") number) d

unfoldable pub next_subpass_line : Data → Found Line
next_subpass_line d = made line.NextSubpass (member (codes "rec") number) d

unfoldable pub end_pass_line : Data → Found Line
end_pass_line d = made line.EndPass (member (codes "rec") number) d

unfoldable pub begin_pass_line : Data → Found Line
begin_pass_line d = (made (λ rec pass views. line.BeginPass rec pass views)
    (member (codes "rec") number) and member (codes "pass") number and member (codes "views") (list view)) d

-- ---- calls

unfoldable pub submit_line : Data → Found Line
submit_line d = (made (λ lane queue batches fence. line.Submit lane queue batches fence)
    (member (codes "lane") slot) and member (codes "queue") slot and member (codes "batches")
    (list batch) and maybe (codes "fence") number) d

unfoldable pub wait_fence_line : Data → Found Line
wait_fence_line d = (made (λ lane fence. line.WaitFence lane fence) (member (codes "lane") slot) and member
    (codes "fence") number) d

unfoldable pub reset_fence_line : Data → Found Line
reset_fence_line d = (made (λ lane fence. line.ResetFence lane fence)
    (member (codes "lane") slot) and member (codes "fence") number) d

unfoldable pub wait_queue_line : Data → Found Line
wait_queue_line d = (made (λ lane queue. line.WaitQueue lane queue) (member (codes "lane") slot) and member
    (codes "queue") slot) d

unfoldable pub wait_device_line : Data → Found Line
wait_device_line d = made line.WaitDevice (member (codes "lane") slot) d
