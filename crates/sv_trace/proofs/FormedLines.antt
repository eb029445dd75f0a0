-- The lines that the reader does not refuse have their forms.
use Rattle.std.proofs.Common.{◌≡◌, ℕ, ◌<◌, ◌≤◌, List, Bool, true, false, cond, Option, None, Some, refl}
use Rattle.std.proofs.Common.{sym, subst, arith, All, codes, Result, Ok, Err, IfOk}
use Rattle.std.specs.Option.{option_map_or}
use Rattle.serde_json.specs.Data.{Data}
use Rattle.sv_json.specs.declared.found.Flaw.{Flaw}
use Rattle.sv_json.specs.declared.found.Flaw.TheVariants.{Shape, Name, Range, Fine}
use Rattle.sv_json.specs.Form.{found, between, list, member}
use Rattle.sv_mask.specs.declared.layout.Layout.TheVariants.{Undefined}
use Rattle.sv_model.specs.declared.line.Line.{Line}
use Rattle.sv_model.specs.declared.line.Line.TheVariants.{Blank}
use Rattle.sv_model.specs.declared.refusal.Cause.{Cause}
use Rattle.sv_model.specs.declared.refusal.Cause.TheVariants.{BadJson, BadShape, UnknownName}
use Rattle.sv_model.specs.declared.refusal.Cause.TheVariants as cause
use Rattle.sv_model.specs.declared.refusal.Fault.{Fault}
use Rattle.sv_model.specs.LawfulParts.{IsNumber}
use Rattle.sv_trace.specs.Formed.{IsFormed, IsFormedAccess, IsFormedElement}
use Rattle.sv_trace.specs.Lines as form
use Rattle.sv_parts.specs.Names as name
use Rattle.sv_trace.specs.Ops.{op_named, form_of}
use Rattle.sv_parts.specs.Parts as part
use Rattle.sv_trace.specs.Reading.{data_of, op_text, line_form, cause_of, line_cause, line_of, Answers}
use Rattle.sv_trace.specs.Text.{is_blank}
use Rattle.sv_trace.specs.declared.op.Op.{Op}
use Rattle.sv_trace.specs.declared.op.Op.TheVariants as op
use Rattle.sv_trace.proofs.Forms.{Says, both_fine, says_between, says_list, says_member, says_or_else}
use Rattle.sv_trace.proofs.FormedParts.{says_slot, says_number, IsFirstLayout, says_first_layout}
use Rattle.sv_trace.proofs.FormedParts.{says_access, says_element, says_lists}

-- Members that are numbers.

slot_at : (name : List ℕ) → Says (λ n. n < 16) (member name part.slot)
slot_at name d fine = says_member (λ n. n < 16) name part.slot says_slot d fine

number_at : (name : List ℕ) → Says IsNumber (member name part.number)
number_at name d fine = says_member IsNumber name part.number says_number d fine

size_at : (lowest most : ℕ) (name : List ℕ) → Says (λ n. (lowest ≤ n) × (n ≤ most))
    (member name (between lowest most))
size_at lowest most name d fine = says_member (λ n. (lowest ≤ n) × (n ≤ most)) name (between lowest most)
    (says_between lowest most) d fine

-- Declarations.

queue_formed : Says IsFormed form.queue_line
unfolding form.queue_line
queue_formed d fine =
    let lane = both_fine _ _ fine in
    let family = both_fine _ _ lane.0 in (
      slot_at (codes "queue") d family.0,
      number_at (codes "family") d family.1,
      slot_at (codes "lane") d lane.1,
    )

buffer_formed : Says IsFormed form.buffer_line
unfolding form.buffer_line
buffer_formed d fine =
    let sharing = both_fine _ _ fine in
    let size = both_fine _ _ sharing.0 in
    let bounds = size_at 1 1099511627776 (codes "size") d size.1 in
    (number_at (codes "res") d size.0, bounds.0, bounds.1)

image_formed : Says IsFormed form.image_line
unfolding form.image_line
image_formed d fine =
    let sharing = both_fine _ _ fine in
    let initial = both_fine _ _ sharing.0 in
    let layers = both_fine _ _ initial.0 in
    let mips = both_fine _ _ layers.0 in
    let mip_bounds = size_at 1 16 (codes "mips") d mips.1 in
    let layer_bounds = size_at 1 2048 (codes "layers") d layers.1 in (
      number_at (codes "res") d mips.0,
      mip_bounds.0,
      mip_bounds.1,
      layer_bounds.0,
      layer_bounds.1,
      says_or_else IsFirstLayout (codes "initial") name.first_layout Undefined says_first_layout
          (omega arith) d initial.1,
    )

semaphore_formed : Says IsFormed form.semaphore_line
unfolding form.semaphore_line
semaphore_formed d fine =
    let initial = both_fine _ _ fine in
    let kind = both_fine _ _ initial.0 in
    number_at (codes "sem") d kind.0

event_formed : Says IsFormed form.event_line
unfolding form.event_line
event_formed d fine = number_at (codes "event") d fine

fence_formed : Says IsFormed form.fence_line
unfolding form.fence_line
fence_formed d fine = number_at (codes "fence") d (both_fine _ _ fine).0

pass_formed : Says IsFormed form.render_pass_line
unfolding form.render_pass_line
pass_formed d fine =
    let parts = both_fine _ _ fine in
    let lists = says_lists d parts.1 in
    record {
      bound = number_at (codes "pass") d parts.0;
      layouts = lists.layouts;
      some = lists.some;
      uses = lists.uses;
      each = lists.each;
    }

-- Recordings.

begin_formed : Says IsFormed form.begin_line
unfolding form.begin_line
begin_formed d fine =
    let family = both_fine _ _ fine in
    let recorder = both_fine _ _ family.0 in (
      number_at (codes "rec") d recorder.0,
      slot_at (codes "recorder") d recorder.1,
      number_at (codes "family") d family.1,
    )

work_formed : Says IsFormed form.work_line
unfolding form.work_line
work_formed d fine = says_member (All IsFormedAccess) (codes "accesses") (list part.access)
    (says_list IsFormedAccess part.access says_access) d (both_fine _ _ fine).1

barrier_formed : Says IsFormed form.barrier_line
unfolding form.barrier_line
barrier_formed d fine = says_member (All IsFormedElement) (codes "deps") (list part.element)
    (says_list IsFormedElement part.element says_element) d (both_fine _ _ fine).1

set_formed : Says IsFormed form.set_event_line
unfolding form.set_event_line
set_formed d fine = says_member (All IsFormedElement) (codes "deps") (list part.element)
    (says_list IsFormedElement part.element says_element) d (both_fine _ _ fine).1

-- Calls.

submit_formed : Says IsFormed form.submit_line
unfolding form.submit_line
submit_formed d fine =
    let fence = both_fine _ _ fine in
    let batches = both_fine _ _ fence.0 in
    let queue = both_fine _ _ batches.0 in
    slot_at (codes "lane") d queue.0

wait_fence_formed : Says IsFormed form.wait_fence_line
unfolding form.wait_fence_line
wait_fence_formed d fine = slot_at (codes "lane") d (both_fine _ _ fine).0

reset_fence_formed : Says IsFormed form.reset_fence_line
unfolding form.reset_fence_line
reset_fence_formed d fine = slot_at (codes "lane") d (both_fine _ _ fine).0

wait_queue_formed : Says IsFormed form.wait_queue_line
unfolding form.wait_queue_line
wait_queue_formed d fine = slot_at (codes "lane") d (both_fine _ _ fine).0

wait_device_formed : Says IsFormed form.wait_device_line
unfolding form.wait_device_line
wait_device_formed d fine = slot_at (codes "lane") d fine

-- Op by op.

op_formed : (o : Op) → Says IsFormed (form_of o)
unfolding form_of form.version_line form.end_line form.wait_event_line form.reset_event_line
    form.begin_rendering_line form.end_rendering_line form.begin_pass_line form.next_subpass_line
    form.end_pass_line
op_formed op.Version d fine = tt
op_formed op.Queue d fine = queue_formed d fine
op_formed op.Buffer d fine = buffer_formed d fine
op_formed op.Image d fine = image_formed d fine
op_formed op.Semaphore d fine = semaphore_formed d fine
op_formed op.Event d fine = event_formed d fine
op_formed op.Fence d fine = fence_formed d fine
op_formed op.RenderPass d fine = pass_formed d fine
op_formed op.Begin d fine = begin_formed d fine
op_formed op.End d fine = tt
op_formed op.Work d fine = work_formed d fine
op_formed op.Barrier d fine = barrier_formed d fine
op_formed op.SetEvent d fine = set_formed d fine
op_formed op.WaitEvent d fine = tt
op_formed op.ResetEvent d fine = tt
op_formed op.BeginRendering d fine = tt
op_formed op.EndRendering d fine = tt
op_formed op.BeginPass d fine = tt
op_formed op.NextSubpass d fine = tt
op_formed op.EndPass d fine = tt
op_formed op.Submit d fine = submit_formed d fine
op_formed op.WaitFence d fine = wait_fence_formed d fine
op_formed op.ResetFence d fine = reset_fence_formed d fine
op_formed op.WaitQueue d fine = wait_queue_formed d fine
op_formed op.WaitDevice d fine = wait_device_formed d fine

named_formed : (d : Data) (o : Option Op) → (option_map_or (λ x. form_of x d) o (found Name Blank)).flaw
    ≡ Fine → IsFormed (option_map_or (λ x. form_of x d) o (found Name Blank)).value
named_formed d None fine = tt
named_formed d (Some o) fine = op_formed o d fine

text_formed : (d : Data) (o : Option (List ℕ)) → (option_map_or
    (λ text. option_map_or (λ x. form_of x d) (op_named text) (found Name Blank)) o
    (found Shape Blank)).flaw ≡ Fine
    → IsFormed (option_map_or (λ text. option_map_or (λ x. form_of x d) (op_named text) (found Name Blank))
    o (found Shape Blank)).value
text_formed d None fine = tt
text_formed d (Some text) fine = named_formed d (op_named text) fine

says_line : Says IsFormed line_form
unfolding line_form
says_line d fine = text_formed d (op_text d) fine

no_cause : (c : Cause) → Some c ≡ None → ⊥
no_cause c e = let h : Some c ≡ None = e in cc

no_flaw : (f : Flaw) → cause_of f ≡ None → f ≡ Fine
no_flaw Shape e = absurd (no_cause BadShape e)
no_flaw Name e = absurd (no_cause UnknownName e)
no_flaw Range e = absurd (no_cause cause.Range e)
no_flaw Fine e = refl

value_formed : (o : Option Data) → option_map_or (λ d. cause_of (line_form d).flaw) o (Some BadJson) ≡ None
    → IsFormed (option_map_or (λ d. (line_form d).value) o Blank)
value_formed None e = tt
value_formed (Some d) e = says_line d (no_flaw (line_form d).flaw e)

bytes_formed : (b : Bool) (o : Option Data) → cond b None
    (option_map_or (λ d. cause_of (line_form d).flaw) o (Some BadJson)) ≡ None
    → IsFormed (cond b Blank (option_map_or (λ d. (line_form d).value) o Blank))
bytes_formed true o e = tt
bytes_formed false o e = value_formed o e

pub line_formed : (bytes : List ℕ) → line_cause bytes ≡ None → IsFormed (line_of bytes)
unfolding line_cause line_of
line_formed bytes e = bytes_formed (is_blank bytes) (data_of bytes) e

-- what the reader answers has its form
pub answers_formed : (bytes : List ℕ) (number : ℕ) (result : Result Line Fault)
    → Answers (line_cause bytes) (line_of bytes) number result → IfOk result IsFormed
answers_formed bytes number (Ok l) h = subst IsFormed (sym h.1) (line_formed bytes h.0)
answers_formed bytes number (Err fault) h = tt
