-- The forms of the parts of lines. Each lists the members of a part in the order of docs/TRACE.md.
use Rattle.std.specs.Prelude.{ℕ, List, [], Bool, false, ◌||◌, if◌then◌else◌, Option, None, Some, is_some}
use Rattle.std.specs.Prelude.{codes}
use Rattle.std.specs.Option.{option_map_or}
use Rattle.std.specs.Str.{bytes_eq}
use Rattle.serde_json.specs.Data.{Data}
use Rattle.serde_json.specs.Find.{as_str}
use Rattle.sv_json.specs.declared.found.Found.{Found}
use Rattle.sv_json.specs.declared.found.Flaw.TheVariants.{Shape, Fine}
use Rattle.sv_json.specs.Form.{found, any_number, between, list, member, maybe, or_else, has, made, ◌and◌}
use Rattle.sv_json.specs.Form.{both_or_neither, checked, object}
use Rattle.sv_mask.specs.declared.layout.Layout.{Layout}
use Rattle.sv_model.specs.declared.line.Part.{Part}
use Rattle.sv_model.specs.declared.line.Part.TheVariants.{Bytes, Image}
use Rattle.sv_model.specs.declared.line.Declared.{Declared}
use Rattle.sv_model.specs.declared.line.Target.{Target}
use Rattle.sv_model.specs.declared.line.Element.{Element}
use Rattle.sv_model.specs.declared.line.Attachment.{Attachment}
use Rattle.sv_model.specs.declared.line.PassAttachment.{PassAttachment}
use Rattle.sv_model.specs.declared.line.PassUse.{PassUse}
use Rattle.sv_model.specs.declared.line.PassDep.{PassDep}
use Rattle.sv_model.specs.declared.line.View.{View}
use Rattle.sv_model.specs.declared.line.SemaphoreUse.{SemaphoreUse}
use Rattle.sv_model.specs.declared.line.Batch.{Batch}
use Rattle.sv_parts.specs.Names as name

-- ---- bounds

-- of queues, lanes and recorders
abbrev pub slot : Data → Found ℕ
slot = between 0 15

-- of resources, semaphores, events, fences, passes, recordings and families
abbrev pub number : Data → Found ℕ
number = between 0 65535

-- of attachments and subpasses, before they are compared with the line's own lists
abbrev pub index : Data → Found ℕ
index = between 0 4294967295

-- ---- ranges

unfoldable pub bytes_part : Data → Found Part
bytes_part d = (made (λ start end. Bytes start end) (member (codes "start") any_number) and member
    (codes "end") any_number) d

unfoldable pub image_part : Data → Found Part
image_part d = (made (λ mip mips layer layers. Image mip mips layer layers)
    (member (codes "mip") any_number) and member (codes "mips") any_number and member
    (codes "layer") any_number and member (codes "layers") any_number) d

-- a part has the image form exactly where it has a member mip
abbrev pub is_image : Data → Bool
is_image d = has (codes "mip") d

-- ---- accesses of `work`

unfoldable pub image_place : Data → Found (Part × Option Layout)
image_place d = (made (λ part layout. (part, Some layout)) image_part and member
    (codes "layout") name.layout) d

unfoldable pub bytes_place : Data → Found (Part × Option Layout)
bytes_place d = made (λ part. (part, None)) bytes_part d

unfoldable pub place : Data → Found (Part × Option Layout)
place d = if is_image d then image_place d else bytes_place d

unfoldable pub access : Data → Found Declared
access d = (made (λ res stage access place. record
    { res = res; stage = stage; access = access; part = place.0; layout = place.1 })
    (member (codes "res") number)
    and member (codes "stage") name.plain_stage
    and member (codes "access") name.plain_access
    and place) d

-- ---- elements of `barrier` and `set_event`

-- the range of an element with a resource, and its layouts, which only one of the image form has
unfoldable pub image_range : Data → Found (Part × Option (Layout × Layout))
image_range d = (made (λ part layouts. (part, layouts)) image_part and both_or_neither
    (codes "old") name.layout (codes "new") name.later_layout) d

unfoldable pub bytes_range : Data → Found (Part × Option (Layout × Layout))
bytes_range d = made (λ part. (part, None)) bytes_part d

unfoldable pub range : Data → Found (Part × Option (Layout × Layout))
range d = if is_image d then image_range d else bytes_range d

unfoldable pub limited : Data → Found Target
limited d = (made (λ res range families. record {
  res = res;
  part = range.0;
  layouts = range.1;
  families = families;
})
    (member (codes "res") number)
    and range
    and both_or_neither (codes "src_family") number (codes "dst_family") number) d

unfoldable pub target : Data → Found (Option Target)
target d = if has (codes "res") d then made Some limited d else found Fine None

unfoldable pub element : Data → Found Element
element d = (made (λ src src_access dst dst_access target. record
    { src = src; src_access = src_access; dst = dst; dst_access = dst_access; target = target })
    (member (codes "src") name.stage_mask)
    and member (codes "src_access") name.access_mask
    and member (codes "dst") name.stage_mask
    and member (codes "dst_access") name.access_mask
    and target) d

-- ---- attachments and views

unfoldable pub attachment : Data → Found Attachment
attachment d = (made (λ res class mip layer layers layout load store. record {
  res = res;
  class = class;
  mip = mip;
  layer = layer;
  layers = layers;
  layout = layout;
  load = load;
  store = store;
})
    (member (codes "res") number)
    and member (codes "class") name.class
    and member (codes "mip") any_number
    and member (codes "layer") any_number
    and member (codes "layers") any_number
    and member (codes "layout") name.layout
    and member (codes "load") name.load
    and member (codes "store") name.store) d

unfoldable pub view : Data → Found View
view d = (made (λ res mip layer layers. record { res = res; mip = mip; layer = layer; layers = layers })
    (member (codes "res") number)
    and member (codes "mip") any_number
    and member (codes "layer") any_number
    and member (codes "layers") any_number) d

-- ---- render passes

unfoldable pub pass_attachment : Data → Found PassAttachment
pass_attachment d = (made (λ class load store initial final. record
    { class = class; load = load; store = store; initial = initial; becomes = final })
    (member (codes "class") name.class)
    and member (codes "load") name.load
    and member (codes "store") name.store
    and member (codes "initial") name.layout
    and member (codes "final") name.later_layout) d

unfoldable pub pass_use : Data → Found PassUse
pass_use d = (made (λ att layout. record { att = att; layout = layout })
    (member (codes "att") index) and member (codes "layout") name.layout) d

unfoldable pub subpass : Data → Found (List PassUse)
subpass d = member (codes "uses") (list pass_use) d

unfoldable pub is_external : Data → Bool
is_external d = option_map_or (bytes_eq (codes "external")) (as_str d) false

-- an end of a dependency: the text external, or the number of a subpass
unfoldable pub end : Data → Found (Option ℕ)
end d = if is_external d then found Fine None else made Some index d

-- one end at least is a subpass
unfoldable pub ends : Data → Found (Option ℕ × Option ℕ)
ends d = checked Shape (λ it. is_some it.0 || is_some it.1)
    (made (λ from to. (from, to)) (member (codes "from") end) and member (codes "to") end) d

unfoldable pub pass_dep : Data → Found PassDep
pass_dep d = (made (λ ends src src_access dst dst_access. record
    { from = ends.0; to = ends.1; src = src; src_access = src_access; dst = dst; dst_access = dst_access })
    ends
    and member (codes "src") name.stage_mask
    and member (codes "src_access") name.access_mask
    and member (codes "dst") name.stage_mask
    and member (codes "dst_access") name.access_mask) d

-- ---- batches

unfoldable pub semaphore_use : Data → Found SemaphoreUse
semaphore_use d = (made (λ sem value stages. record { sem = sem; value = value; stages = stages })
    (member (codes "sem") number)
    and maybe (codes "value") any_number
    and member (codes "stages") name.stage_mask) d

unfoldable pub batch : Data → Found Batch
batch d = object (made (λ waits recs signals. record { waits = waits; recs = recs; signals = signals })
    (or_else (codes "waits") (list semaphore_use) [])
    and or_else (codes "recs") (list number) []
    and or_else (codes "signals") (list semaphore_use) []) d
