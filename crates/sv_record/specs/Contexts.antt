-- What a recording's context stands for: the first commands of a recording of a lawful trace.
use Rattle.std.specs.Prelude.{ℕ, ◌+◌, ◌≡◌, ◌≤◌, List, Some, All, length, reverse, take, count_by, slice_get}
use Rattle.sv_model.specs.declared.line.Trace.{Trace}
use Rattle.sv_model.specs.declared.line.Line.{Line}
use Rattle.sv_model.specs.declared.line.Recording.{Recording}
use Rattle.sv_model.specs.declared.line.Command.{Command}
use Rattle.sv_model.specs.declared.line.Command.TheVariants as command
use Rattle.sv_model.specs.declared.line.View.{View}
use Rattle.sv_model.specs.declared.work.Step.{Step}
use Rattle.sv_model.specs.Declarations.{recording_of, commands_of, pass_of}
use Rattle.sv_model.specs.Recordings as compile
use Rattle.sv_model.specs.Recordings.{Scope, InRendering, InPass, scope_after, begins, lowered}
use Rattle.sv_model.specs.Lawful.{IsLawful}
use Rattle.sv_model.specs.Laws.{IsSmallPass}
use Rattle.sv_model.specs.Plain.{AttachmentFits, IsPlain, ViewFits}
use Rattle.sv_pass.specs.Begun.{IsBegun, pass_in}
use Rattle.sv_record.specs.declared.scope.Open.{Open}
use Rattle.sv_record.specs.declared.scope.Open.TheVariants as opened

-- the recording, and how many of its commands were pushed
pub record Context : Type 0 where
  pub trace : Trace
  pub number : ℕ
  pub pushed : ℕ

-- the pushed commands, of which the latest stands first
abbrev pub pushed_commands : Trace → ℕ → ℕ → List Command
pushed_commands t number n = reverse (take n (commands_of t number))

-- the recording's next command
abbrev pub IsNext : Context → Command → Type 0
IsNext c command = slice_get (commands_of c.trace c.number) c.pushed ≡ Some command

abbrev pub IsWhole : Context → Type 0
IsWhole c = c.pushed ≡ length (commands_of c.trace c.number)

-- what is kept of the open scope stands for it
abbrev pub StandsFor : Trace → Open → ℕ → Scope → Type 0
StandsFor t opened.Outside i scope = scope ≡ compile.Outside
StandsFor t (opened.Rendering attachments) i scope = (scope ≡ InRendering attachments)
    × (length attachments ≤ 16) × All AttachmentFits attachments
StandsFor t (opened.Pass begun) i scope = (pass : ℕ) × (views : List View) × (scope ≡ InPass pass views i)
    × IsBegun (pass_of t pass) views begun

-- the attachments of dynamic rendering are few, and their numbers fit
abbrev pub OpenFits : Open → Type 0
OpenFits opened.Outside = Unit {0}
OpenFits (opened.Rendering attachments) = (length attachments ≤ 16) × All AttachmentFits attachments
OpenFits (opened.Pass begun) = Unit {0}

-- what the trace rules say of a command by itself and of the pass that it begins
abbrev pub CommandFits : List Line → Command → Type 0
CommandFits passes (command.BeginRendering attachments) = (length attachments ≤ 16)
    × All AttachmentFits attachments
CommandFits passes command.EndRendering = Unit {0}
CommandFits passes (command.BeginPass pass views) = IsSmallPass (pass_in passes pass)
    × (length views ≡ length (pass_in passes pass).attachments) × All ViewFits views
CommandFits passes command.NextSubpass = Unit {0}
CommandFits passes command.EndPass = Unit {0}
CommandFits passes plain = IsPlain plain

-- the subpass after a command
abbrev pub subpass_after : Command → ℕ → ℕ
subpass_after (command.BeginRendering attachments) i = 0
subpass_after command.EndRendering i = 0
subpass_after (command.BeginPass pass views) i = 0
subpass_after command.NextSubpass i = i + 1
subpass_after command.EndPass i = 0
subpass_after plain i = i

-- The fields stand for the first commands of the recording.
pub record Stands (t : Trace) (number family pushed begun : ℕ) (scope : Open) (subpass : ℕ)
    (steps : List Step) : Type 0 where
  pub lawful : IsLawful t
  pub recording : Recording
  pub declared : recording_of t number ≡ Some recording
  pub same_family : recording.family ≡ family
  pub within : pushed ≤ length recording.commands
  pub counted : begun ≡ count_by begins (pushed_commands t number pushed)
  pub stands : StandsFor t scope subpass (scope_after (pushed_commands t number pushed))
  pub compiled : steps ≡ lowered t recording (pushed_commands t number pushed)
  pub few : subpass ≤ pushed
