-- What the rules come to: a line that is not refused is lawful, and a text of such lines makes a lawful
-- trace.
use Rattle.std.specs.Prelude.{◌≡◌, ℕ, ◌+◌, false, List, [], ◌∷◌, None, Some}
use Rattle.sv_model.specs.declared.line.Line.{Line}
use Rattle.sv_model.specs.declared.line.Line.TheVariants as line
use Rattle.sv_model.specs.declared.line.Command.{Command}
use Rattle.sv_model.specs.declared.line.Command.TheVariants as command
use Rattle.sv_model.specs.declared.line.Recording.{Recording}
use Rattle.sv_model.specs.declared.line.Trace.{Trace}
use Rattle.sv_model.specs.Declarations.{recording_of}
use Rattle.sv_model.specs.LawfulCommands.{IsLawfulCommand}
use Rattle.sv_model.specs.Lawful.{IsLawful, IsLawfulQueue, IsLawfulResource, IsLawfulSemaphore}
use Rattle.sv_model.specs.Lawful.{IsLawfulEventLine, IsLawfulFence, IsLawfulPassLine, IsLawfulCall}
use Rattle.sv_rules.specs.Causes.{rule_cause}
use Rattle.sv_rules.specs.Ends.{is_unfinished}
use Rattle.sv_trace.specs.Formed.{IsFormed}
use Rattle.sv_rules.specs.Outcome.{IsTraceOf}
use Rattle.sv_rules.specs.SoFar.{IsLawfulSoFar}
use Rattle.sv_rules.specs.Taken.{Taken, taken_of, scope_in}
use Rattle.sv_rules.specs.Trace.{no_lines, with_line}

-- the command is lawful as the next one of that recording
abbrev pub IsLawfulNext : Trace → ℕ → Command → Type 0
IsLawfulNext t rec c = (r : Recording) → recording_of t rec ≡ Some r
    → IsLawfulCommand t r.family (scope_in t rec) c

-- what is asked of a line in the trace of the lines before it
abbrev pub IsLawfulLine : Trace → Line → Type 0
IsLawfulLine t (line.Queue queue family lane) = IsLawfulQueue (line.Queue queue family lane)
IsLawfulLine t (line.Buffer res size sharing) = IsLawfulResource (line.Buffer res size sharing)
IsLawfulLine t (line.Image res mips layers initial sharing) =
    IsLawfulResource (line.Image res mips layers initial sharing)
IsLawfulLine t (line.Semaphore sem kind initial) = IsLawfulSemaphore (line.Semaphore sem kind initial)
IsLawfulLine t (line.Event event) = IsLawfulEventLine (line.Event event)
IsLawfulLine t (line.Fence fence signaled) = IsLawfulFence (line.Fence fence signaled)
IsLawfulLine t (line.RenderPass pass attachments subpasses deps) =
    IsLawfulPassLine (line.RenderPass pass attachments subpasses deps)
IsLawfulLine t (line.Work rec accesses) = IsLawfulNext t rec (command.Work accesses)
IsLawfulLine t (line.Barrier rec deps) = IsLawfulNext t rec (command.Barrier deps)
IsLawfulLine t (line.SetEvent rec event deps) = IsLawfulNext t rec (command.SetEvent event deps)
IsLawfulLine t (line.WaitEvent rec event) = IsLawfulNext t rec (command.WaitEvent event)
IsLawfulLine t (line.ResetEvent rec event) = IsLawfulNext t rec (command.ResetEvent event)
IsLawfulLine t (line.BeginRendering rec attachments) = IsLawfulNext t rec (command.BeginRendering attachments)
IsLawfulLine t (line.EndRendering rec) = IsLawfulNext t rec command.EndRendering
IsLawfulLine t (line.BeginPass rec pass views) = IsLawfulNext t rec (command.BeginPass pass views)
IsLawfulLine t (line.NextSubpass rec) = IsLawfulNext t rec command.NextSubpass
IsLawfulLine t (line.EndPass rec) = IsLawfulNext t rec command.EndPass
IsLawfulLine t (line.Submit lane queue batches fence) =
    IsLawfulCall t lane (line.Submit lane queue batches fence)
IsLawfulLine t (line.WaitFence lane fence) = IsLawfulCall t lane (line.WaitFence lane fence)
IsLawfulLine t (line.ResetFence lane fence) = IsLawfulCall t lane (line.ResetFence lane fence)
IsLawfulLine t (line.WaitQueue lane queue) = IsLawfulCall t lane (line.WaitQueue lane queue)
IsLawfulLine t (line.WaitDevice lane) = IsLawfulCall t lane (line.WaitDevice lane)
IsLawfulLine t other = Unit {0}

-- A line that is not refused is lawful in the trace of the lines before it.
abbrev pub LinesAreLawful : Type 0
LinesAreLawful = (s : Taken) (line : Line) → rule_cause s line ≡ None → IsFormed line
    → IsLawfulLine s.trace line

-- Before any line the trace is lawful so far, each line that is not refused leaves it so, and where no
-- recording is open it is lawful.

abbrev pub NothingIsLawful : Type 0
NothingIsLawful = IsLawfulSoFar 0 no_lines

abbrev pub EachLineKeepsLaw : Type 0
EachLineKeepsLaw = (s : Taken) (line : Line) → IsLawfulSoFar s.lines s.trace → rule_cause s line ≡ None
    → IsFormed line → IsLawfulSoFar (s.lines + 1) (with_line s.trace line)

abbrev pub EndIsLawful : Type 0
EndIsLawful = (lines : ℕ) (t : Trace) → IsLawfulSoFar lines t → is_unfinished t ≡ false → IsLawful t

-- no line is refused, of which the newest stands first
abbrev pub NoneIsRefused : List Line → Type 0
NoneIsRefused [] = Unit {0}
NoneIsRefused (line ∷ before) = (rule_cause (taken_of before) line ≡ None) × IsFormed line
    × NoneIsRefused before

-- Where no line is refused and no recording is open, the trace that the lines make is lawful.
abbrev pub TracesAreLawful : Type 0
TracesAreLawful = (lines : List Line) → NoneIsRefused lines → is_unfinished (taken_of lines).trace ≡ false
    → IsLawful (taken_of lines).trace

-- The trace of a text that is not refused is lawful.
abbrev pub TextsAreLawful : Type 0
TextsAreLawful = (lines : List (List ℕ)) (t : Trace) → IsTraceOf lines t → IsLawful t
