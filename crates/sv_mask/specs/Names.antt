-- The tables of names: of stages, accesses and layouts, and of the further names in a mask.
use Rattle.std.specs.Prelude.{ℕ, List, [], ◌∷◌, ◌++◌, true, false, Option, codes, map, slice_index_or}
use Rattle.std.specs.List.{find, range_with_len}
use Rattle.std.specs.Option.{option_map}
use Rattle.std.specs.Str.{bytes_eq}
use Rattle.sv_mask.specs.Sets.{set_of}
use Rattle.sv_mask.specs.Usages.{stage_number, access_number, layout_number, stage_of, access_of}
use Rattle.sv_mask.specs.declared.stage.Stage.{Stage}
use Rattle.sv_mask.specs.declared.stage.Stage.TheVariants as stage
use Rattle.sv_mask.specs.declared.stage.StageWord.{StageWord}
use Rattle.sv_mask.specs.declared.access.Access16.{Access16}
use Rattle.sv_mask.specs.declared.access.Access16.TheVariants as access
use Rattle.sv_mask.specs.declared.access.AccessWord.{AccessWord}
use Rattle.sv_mask.specs.declared.layout.Layout.{Layout}
use Rattle.sv_mask.specs.declared.layout.Layout.TheVariants as layout

-- the value in the first row that has this text
abbrev pub named : {A : Type 0} → List (List ℕ × A) → List ℕ → Option A
named rows text = option_map (λ row. row.1) (find (λ row. bytes_eq text row.0) rows)

-- the text in the row at this place, from 0
abbrev pub text_at : {A : Type 0} → List (List ℕ × A) → ℕ → List ℕ
text_at rows place = slice_index_or (map (λ row. row.0) rows) place []

-- the plain stages, in order
abbrev pub plain_stages : List (List ℕ × Stage)
plain_stages =
    (codes "draw_indirect", stage.DrawIndirect)
    ∷ (codes "index_input", stage.IndexInput)
    ∷ (codes "vertex_attribute_input", stage.VertexAttributeInput)
    ∷ (codes "vertex_shader", stage.VertexShader)
    ∷ (codes "tessellation_control_shader", stage.TessellationControlShader)
    ∷ (codes "tessellation_evaluation_shader", stage.TessellationEvaluationShader)
    ∷ (codes "geometry_shader", stage.GeometryShader)
    ∷ (codes "early_fragment_tests", stage.EarlyFragmentTests)
    ∷ (codes "fragment_shader", stage.FragmentShader)
    ∷ (codes "late_fragment_tests", stage.LateFragmentTests)
    ∷ (codes "color_attachment_output", stage.ColorAttachmentOutput)
    ∷ (codes "compute_shader", stage.ComputeShader)
    ∷ (codes "copy", stage.Copy)
    ∷ (codes "resolve", stage.Resolve)
    ∷ (codes "blit", stage.Blit)
    ∷ (codes "clear", stage.Clear)
    ∷ (codes "host", stage.Host)
    ∷ []

-- a mask of the stages with these numbers, without top and bottom of the pipe
abbrev pub stage_word : List ℕ → StageWord
stage_word numbers = record { plain = record { 0 = set_of numbers }; top = false; bottom = false }

-- The further names in a mask of stages: vertex_input is stages 1 and 2, pre_rasterization_shaders 3 to 6,
-- all_transfer 12 to 15, all_graphics 0 to 10, all_commands 0 to 15.
abbrev pub further_stages : List (List ℕ × StageWord)
further_stages =
    (codes "none", stage_word [])
    ∷ (codes "vertex_input", stage_word (1 ∷ 2 ∷ []))
    ∷ (codes "pre_rasterization_shaders", stage_word (3 ∷ 4 ∷ 5 ∷ 6 ∷ []))
    ∷ (codes "all_transfer", stage_word (12 ∷ 13 ∷ 14 ∷ 15 ∷ []))
    ∷ (codes "all_graphics", stage_word (range_with_len 0 11))
    ∷ (codes "all_commands", stage_word (range_with_len 0 16))
    ∷ (codes "top_of_pipe", record (stage_word []) { top = true })
    ∷ (codes "bottom_of_pipe", record (stage_word []) { bottom = true })
    ∷ []

-- the plain accesses, in order
abbrev pub plain_accesses : List (List ℕ × Access16)
plain_accesses =
    (codes "indirect_command_read", access.IndirectCommandRead)
    ∷ (codes "index_read", access.IndexRead)
    ∷ (codes "vertex_attribute_read", access.VertexAttributeRead)
    ∷ (codes "uniform_read", access.UniformRead)
    ∷ (codes "shader_sampled_read", access.ShaderSampledRead)
    ∷ (codes "shader_storage_read", access.ShaderStorageRead)
    ∷ (codes "shader_storage_write", access.ShaderStorageWrite)
    ∷ (codes "input_attachment_read", access.InputAttachmentRead)
    ∷ (codes "color_attachment_read", access.ColorAttachmentRead)
    ∷ (codes "color_attachment_write", access.ColorAttachmentWrite)
    ∷ (codes "depth_stencil_attachment_read", access.DepthStencilAttachmentRead)
    ∷ (codes "depth_stencil_attachment_write", access.DepthStencilAttachmentWrite)
    ∷ (codes "transfer_read", access.TransferRead)
    ∷ (codes "transfer_write", access.TransferWrite)
    ∷ (codes "host_read", access.HostRead)
    ∷ (codes "host_write", access.HostWrite)
    ∷ []

-- a mask of the accesses with these numbers, without memory_read and memory_write
abbrev pub access_word : List ℕ → AccessWord
access_word numbers = record {
  plain = record { 0 = set_of numbers };
  memory_read = false;
  memory_write = false;
}

-- The further names in a mask of accesses: shader_read is shader_sampled_read (4) and
-- shader_storage_read (5), shader_write is shader_storage_write (6).
abbrev pub further_accesses : List (List ℕ × AccessWord)
further_accesses =
    (codes "none", access_word [])
    ∷ (codes "shader_read", access_word (4 ∷ 5 ∷ []))
    ∷ (codes "shader_write", access_word (6 ∷ []))
    ∷ (codes "memory_read", record (access_word []) { memory_read = true })
    ∷ (codes "memory_write", record (access_word []) { memory_write = true })
    ∷ []

-- the layouts, in order
abbrev pub layouts : List (List ℕ × Layout)
layouts =
    (codes "undefined", layout.Undefined)
    ∷ (codes "preinitialized", layout.Preinitialized)
    ∷ (codes "general", layout.General)
    ∷ (codes "color_attachment_optimal", layout.ColorAttachmentOptimal)
    ∷ (codes "depth_stencil_attachment_optimal", layout.DepthStencilAttachmentOptimal)
    ∷ (codes "depth_stencil_read_only_optimal", layout.DepthStencilReadOnlyOptimal)
    ∷ (codes "shader_read_only_optimal", layout.ShaderReadOnlyOptimal)
    ∷ (codes "transfer_src_optimal", layout.TransferSrcOptimal)
    ∷ (codes "transfer_dst_optimal", layout.TransferDstOptimal)
    ∷ (codes "read_only_optimal", layout.ReadOnlyOptimal)
    ∷ (codes "attachment_optimal", layout.AttachmentOptimal)
    ∷ (codes "present_src", layout.PresentSrc)
    ∷ []

-- what a text names: a plain stage, a plain access, a layout, stages or accesses in a mask
unfoldable pub plain_stage_named : List ℕ → Option Stage
plain_stage_named = named plain_stages

unfoldable pub plain_access_named : List ℕ → Option Access16
plain_access_named = named plain_accesses

unfoldable pub layout_named : List ℕ → Option Layout
layout_named = named layouts

unfoldable pub stage_named : List ℕ → Option StageWord
stage_named = named (map (λ row. (row.0, stage_word (stage_number row.1 ∷ []))) plain_stages
    ++ further_stages)

unfoldable pub access_named : List ℕ → Option AccessWord
access_named = named (map (λ row. (row.0, access_word (access_number row.1 ∷ []))) plain_accesses
    ++ further_accesses)

-- the names of a usage's access and of its stage
unfoldable pub usage_text : ℕ → List ℕ × List ℕ
usage_text usage = (text_at plain_accesses (access_of usage), text_at plain_stages (stage_of usage))

-- the name of a layout
unfoldable pub layout_text : Layout → List ℕ
layout_text l = text_at layouts (layout_number l)
