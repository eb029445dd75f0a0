-- What the first four refusals leave of a line: its numbers are within their bounds, and its parts have
-- their forms.
use Rattle.std.specs.Prelude.{ℕ, ◌<◌, ◌≤◌, List, Option, None, Some, All, length}
use Rattle.sv_model.specs.declared.line.Line.{Line}
use Rattle.sv_model.specs.declared.line.Line.TheVariants as line
use Rattle.sv_model.specs.declared.line.Declared.{Declared}
use Rattle.sv_model.specs.declared.line.Element.{Element}
use Rattle.sv_model.specs.declared.line.Target.{Target}
use Rattle.sv_model.specs.declared.line.PassAttachment.{PassAttachment}
use Rattle.sv_model.specs.declared.line.PassUse.{PassUse}
use Rattle.sv_model.specs.declared.line.PassDep.{PassDep}
use Rattle.sv_model.specs.LawfulParts.{IsNumber, HasItsLayout, HaveImage, AreNumbers}
use Rattle.sv_model.specs.Lawful.{IsLawfulQueue, IsLawfulResource, IsLawfulEventLine, IsLawfulFence}
use Rattle.sv_model.specs.Lawful.{HasFinalLayout, IsEnd, GoesOn}

abbrev pub IsFormedAccess : Declared → Type 0
IsFormedAccess d = HasItsLayout d.part d.layout

abbrev pub IsFormedTarget : Option Target → Type 0
IsFormedTarget None = Unit {0}
IsFormedTarget (Some x) = HaveImage x.part x.layouts × AreNumbers x.families

abbrev pub IsFormedElement : Element → Type 0
IsFormedElement e = IsFormedTarget e.target

abbrev pub IsFormedSubpass : ℕ → List PassUse → Type 0
IsFormedSubpass attachments uses = All (λ (u : PassUse). u.att < attachments) uses

pub record IsFormedPassDep (subpasses : ℕ) (d : PassDep) : Type 0 where
  pub from : IsEnd subpasses d.from
  pub to : IsEnd subpasses d.to
  pub order : GoesOn d.from d.to

pub record IsFormedPass (number : ℕ) (attachments : List PassAttachment) (subpasses : List (List PassUse))
    (deps : List PassDep) : Type 0 where
  pub bound : IsNumber number
  pub layouts : All HasFinalLayout attachments
  pub some : 1 ≤ length subpasses
  pub uses : All (IsFormedSubpass (length attachments)) subpasses
  pub each : All (IsFormedPassDep (length subpasses)) deps

abbrev pub IsFormed : Line → Type 0
IsFormed (line.Queue queue family lane) = IsLawfulQueue (line.Queue queue family lane)
IsFormed (line.Buffer res size sharing) = IsLawfulResource (line.Buffer res size sharing)
IsFormed (line.Image res mips layers initial sharing) =
    IsLawfulResource (line.Image res mips layers initial sharing)
IsFormed (line.Semaphore sem kind initial) = IsNumber sem
IsFormed (line.Event event) = IsLawfulEventLine (line.Event event)
IsFormed (line.Fence fence signaled) = IsLawfulFence (line.Fence fence signaled)
IsFormed (line.RenderPass pass attachments subpasses deps) = IsFormedPass pass attachments subpasses deps
IsFormed (line.Begin rec recorder family) = IsNumber rec × (recorder < 16) × IsNumber family
IsFormed (line.Work rec accesses) = All IsFormedAccess accesses
IsFormed (line.Barrier rec deps) = All IsFormedElement deps
IsFormed (line.SetEvent rec event deps) = All IsFormedElement deps
IsFormed (line.Submit lane queue batches fence) = lane < 16
IsFormed (line.WaitFence lane fence) = lane < 16
IsFormed (line.ResetFence lane fence) = lane < 16
IsFormed (line.WaitQueue lane queue) = lane < 16
IsFormed (line.WaitDevice lane) = lane < 16
IsFormed other = Unit {0}
