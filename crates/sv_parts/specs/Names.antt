-- The tables of the names that stand in lines alone, and what stands in the place of a name.
use Rattle.std.specs.Prelude.{ℕ, List, [], ◌∷◌, Bool, true, false, ◌||◌, if◌then◌else◌, Option, None, Some}
use Rattle.std.specs.Prelude.{codes, option_and_then}
use Rattle.std.specs.Int.RustNames.{bit_or}
use Rattle.serde_json.specs.Data.{Data}
use Rattle.sv_json.specs.Form.{word, mask}
use Rattle.sv_json.specs.declared.found.Found.{Found}
use Rattle.sv_mask.specs.Names.{named, plain_stage_named, plain_access_named, layout_named, stage_named}
use Rattle.sv_mask.specs.Names.{access_named}
use Rattle.sv_mask.specs.declared.stage.Stage.{Stage}
use Rattle.sv_mask.specs.declared.stage.Stage.TheVariants as stages
use Rattle.sv_mask.specs.declared.stage.StageWord.{StageWord}
use Rattle.sv_mask.specs.declared.access.Access16.{Access16}
use Rattle.sv_mask.specs.declared.access.Access16.TheVariants as accesses
use Rattle.sv_mask.specs.declared.access.AccessWord.{AccessWord}
use Rattle.sv_mask.specs.declared.layout.Layout.{Layout}
use Rattle.sv_mask.specs.declared.layout.Layout.TheVariants.{Undefined, Preinitialized, General}
use Rattle.sv_mask.specs.declared.layout.Layout.TheVariants.{ColorAttachmentOptimal}
use Rattle.sv_mask.specs.declared.layout.Layout.TheVariants.{DepthStencilAttachmentOptimal}
use Rattle.sv_mask.specs.declared.layout.Layout.TheVariants.{DepthStencilReadOnlyOptimal}
use Rattle.sv_mask.specs.declared.layout.Layout.TheVariants.{ShaderReadOnlyOptimal, TransferSrcOptimal}
use Rattle.sv_mask.specs.declared.layout.Layout.TheVariants.{TransferDstOptimal, ReadOnlyOptimal}
use Rattle.sv_mask.specs.declared.layout.Layout.TheVariants.{AttachmentOptimal, PresentSrc}
use Rattle.sv_model.specs.declared.line.Class.{Class}
use Rattle.sv_model.specs.declared.line.Class.TheVariants as classes
use Rattle.sv_model.specs.declared.line.Load.{Load}
use Rattle.sv_model.specs.declared.line.Load.TheVariants as loads
use Rattle.sv_model.specs.declared.line.Store.{Store}
use Rattle.sv_model.specs.declared.line.Store.TheVariants as stores
use Rattle.sv_model.specs.declared.line.Sharing.{Sharing}
use Rattle.sv_model.specs.declared.line.Sharing.TheVariants as sharings
use Rattle.sv_model.specs.declared.line.SemKind.{SemKind}
use Rattle.sv_model.specs.declared.line.SemKind.TheVariants as kinds

-- ---- tables

unfoldable pub class_named : List ℕ → Option Class
class_named = named ((codes "color", classes.Color) ∷ (codes "depth", classes.Depth) ∷ [])

unfoldable pub load_named : List ℕ → Option Load
load_named = named ((codes "load", loads.Load) ∷ (codes "clear", loads.Clear)
    ∷ (codes "dont_care", loads.DontCare) ∷ [])

unfoldable pub store_named : List ℕ → Option Store
store_named = named ((codes "store", stores.Store) ∷ (codes "dont_care", stores.DontCare)
    ∷ (codes "none", stores.Nothing) ∷ [])

unfoldable pub sharing_named : List ℕ → Option Sharing
sharing_named = named ((codes "exclusive", sharings.Exclusive) ∷ (codes "concurrent", sharings.Concurrent)
    ∷ [])

unfoldable pub kind_named : List ℕ → Option SemKind
kind_named = named ((codes "binary", kinds.Binary) ∷ (codes "timeline", kinds.Timeline) ∷ [])

-- the two layouts that an image can have from the start
abbrev pub is_first : Layout → Bool
is_first Undefined = true
is_first Preinitialized = true
is_first General = false
is_first ColorAttachmentOptimal = false
is_first DepthStencilAttachmentOptimal = false
is_first DepthStencilReadOnlyOptimal = false
is_first ShaderReadOnlyOptimal = false
is_first TransferSrcOptimal = false
is_first TransferDstOptimal = false
is_first ReadOnlyOptimal = false
is_first AttachmentOptimal = false
is_first PresentSrc = false

unfoldable pub first_layout_named : List ℕ → Option Layout
first_layout_named text = option_and_then (λ l. if is_first l then Some l else None) (layout_named text)

unfoldable pub later_layout_named : List ℕ → Option Layout
later_layout_named text = option_and_then (λ l. if is_first l then None else Some l) (layout_named text)

-- ---- masks

unfoldable pub join_stages : StageWord → StageWord → StageWord
join_stages a b = record {
  plain = record { 0 = bit_or a.plain.0 b.plain.0 };
  top = a.top || b.top;
  bottom = a.bottom || b.bottom;
}

abbrev pub no_stages : StageWord
no_stages = record { plain = record { 0 = 0 }; top = false; bottom = false }

unfoldable pub join_accesses : AccessWord → AccessWord → AccessWord
join_accesses a b = record {
  plain = record { 0 = bit_or a.plain.0 b.plain.0 };
  memory_read = a.memory_read
      || b.memory_read;
  memory_write = a.memory_write || b.memory_write;
}

abbrev pub no_accesses : AccessWord
no_accesses = record { plain = record { 0 = 0 }; memory_read = false; memory_write = false }

-- ---- the forms of names

abbrev pub plain_stage : Data → Found Stage
plain_stage = word plain_stage_named stages.Host

abbrev pub plain_access : Data → Found Access16
plain_access = word plain_access_named accesses.HostRead

abbrev pub layout : Data → Found Layout
layout = word layout_named Undefined

abbrev pub first_layout : Data → Found Layout
first_layout = word first_layout_named Undefined

abbrev pub later_layout : Data → Found Layout
later_layout = word later_layout_named Undefined

abbrev pub class : Data → Found Class
class = word class_named classes.Color

abbrev pub load : Data → Found Load
load = word load_named loads.Load

abbrev pub store : Data → Found Store
store = word store_named stores.Store

abbrev pub sharing : Data → Found Sharing
sharing = word sharing_named sharings.Exclusive

abbrev pub kind : Data → Found SemKind
kind = word kind_named kinds.Binary

-- a list of names, whose value is their union
abbrev pub stage_mask : Data → Found StageWord
stage_mask = mask join_stages no_stages (word stage_named no_stages)

abbrev pub access_mask : Data → Found AccessWord
access_mask = mask join_accesses no_accesses (word access_named no_accesses)
