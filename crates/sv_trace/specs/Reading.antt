-- What a line says, and why it is refused: the least of the first four refusals whose sentence holds of the
-- line.
use Rattle.std.specs.Prelude.{◌≡◌, ℕ, List, Option, None, Some, if◌then◌else◌, Result, Ok, Err, codes}
use Rattle.std.specs.Prelude.{option_and_then, ⊤}
use Rattle.std.specs.Option.{option_map_or}
use Rattle.std.specs.Str.{is_utf8}
use Rattle.serde_json.specs.Data.{Data}
use Rattle.serde_json.specs.Find.{get, as_str}
use Rattle.serde_json.specs.Read.{read}
use Rattle.sv_json.specs.declared.found.Found.{Found}
use Rattle.sv_json.specs.declared.found.Flaw.{Flaw}
use Rattle.sv_json.specs.declared.found.Flaw.TheVariants as flaw
use Rattle.sv_json.specs.Form.{found}
use Rattle.sv_model.specs.declared.line.Line.{Line}
use Rattle.sv_model.specs.declared.line.Line.TheVariants.{Blank}
use Rattle.sv_model.specs.declared.refusal.Cause.{Cause}
use Rattle.sv_model.specs.declared.refusal.Cause.TheVariants.{BadJson, BadShape, UnknownName, Range}
use Rattle.sv_model.specs.declared.refusal.Fault.{Fault}
use Rattle.sv_model.specs.declared.refusal.Fault.TheVariants.{Refused, Memory}
use Rattle.sv_trace.specs.Ops.{op_named, form_of}
use Rattle.sv_trace.specs.Text.{is_blank}

-- the value of a line, where it is UTF-8 and serde_json reads it
unfoldable pub data_of : List ℕ → Option Data
data_of bytes = if is_utf8 bytes then read bytes else None

-- ---- a value as a line

unfoldable pub op_text : Data → Option (List ℕ)
op_text d = option_and_then as_str (get (codes "op") d)

-- no text op is a flaw of the shape, and a text that names no op one of the name
unfoldable pub line_form : Data → Found Line
line_form d = option_map_or
    (λ text. option_map_or (λ op. form_of op d) (op_named text) (found flaw.Name Blank))
    (op_text d)
    (found flaw.Shape Blank)

abbrev pub cause_of : Flaw → Option Cause
cause_of flaw.Shape = Some BadShape
cause_of flaw.Name = Some UnknownName
cause_of flaw.Range = Some Range
cause_of flaw.Fine = None

-- ---- a line

unfoldable pub line_cause : List ℕ → Option Cause
line_cause bytes = if is_blank bytes then None else option_map_or (λ d. cause_of (line_form d).flaw)
    (data_of bytes) (Some BadJson)

-- the line that the bytes spell, where it has no cause
unfoldable pub line_of : List ℕ → Line
line_of bytes = if is_blank bytes then Blank else option_map_or (λ d. (line_form d).value)
    (data_of bytes) Blank

-- the line where it has no cause, else the refusal with its number and cause
abbrev pub Answers : Option Cause → Line → ℕ → Result Line Fault → Type 0
Answers cause line number (Ok l) = (cause ≡ None) × (l ≡ line)
Answers cause line number (Err (Refused refusal)) = (cause ≡ Some refusal.cause) × (refusal.line ≡ number)
Answers cause line number (Err Memory) = ⊤
