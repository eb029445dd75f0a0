-- The stages and accesses that a line names.
use Rattle.std.specs.Prelude.{Bool, false, not, ◌||◌, is_none}
use Rattle.std.specs.List.{list_any}
use Rattle.sv_mask.specs.Scopes.{supported}
use Rattle.sv_mask.specs.Usages.{usage_of, stage_number, access_number}
use Rattle.sv_model.specs.declared.line.Line.{Line}
use Rattle.sv_model.specs.declared.line.Line.TheVariants as line
use Rattle.sv_model.specs.declared.line.Declared.{Declared}
use Rattle.sv_model.specs.declared.line.Element.{Element}
use Rattle.sv_model.specs.declared.line.PassDep.{PassDep}

-- the access is none of the 43 usages
abbrev pub is_no_usage : Declared → Bool
is_no_usage a = is_none (usage_of (stage_number a.stage) (access_number a.access))

-- a pair of masks is not supported
abbrev pub element_unsupported : Element → Bool
element_unsupported e = not (supported e.src e.src_access) || not (supported e.dst e.dst_access)

abbrev pub dep_unsupported : PassDep → Bool
dep_unsupported d = not (supported d.src d.src_access) || not (supported d.dst d.dst_access)

-- An access of a `work` is none of the 43 usages, or a pair of masks is not supported.
unfoldable pub is_without_stage : Line → Bool
is_without_stage (line.Work rec accesses) = list_any is_no_usage accesses
is_without_stage (line.Barrier rec deps) = list_any element_unsupported deps
is_without_stage (line.SetEvent rec event deps) = list_any element_unsupported deps
is_without_stage (line.RenderPass pass attachments subpasses deps) = list_any dep_unsupported deps
is_without_stage other = false
