-- The pass that a line declares.
use Rattle.std.specs.Prelude.{Option, None, Some, option_and_then, unwrap_or}
use Rattle.sv_model.specs.declared.line.Line.{Line}
use Rattle.sv_model.specs.declared.line.Line.TheVariants as line
use Rattle.sv_model.specs.Declarations.{Pass, empty_pass}

abbrev pub pass_said : Line → Option Pass
pass_said (line.RenderPass pass attachments subpasses deps) =
    Some (record { attachments = attachments; subpasses = subpasses; deps = deps })
pass_said other = None

abbrev pub pass_or_empty : Option Line → Pass
pass_or_empty line = unwrap_or (option_and_then pass_said line) empty_pass
