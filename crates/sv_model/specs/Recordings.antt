-- The lowering of a recording: the steps of its commands, one after another ("Command Buffer Recording").
use Rattle.std.specs.Prelude.{ℕ, ◌+◌, ◌-◌, List, [], ◌∷◌, ◌++◌, Bool, true, false, Option, Some, None, map}
use Rattle.std.specs.Prelude.{reverse, length, count_by, unwrap_or, if◌then◌else◌}
use Rattle.sv_mask.specs.Usages.{usage_of, stage_number, access_number}
use Rattle.sv_model.specs.declared.line.Trace.{Trace}
use Rattle.sv_model.specs.declared.line.Recording.{Recording}
use Rattle.sv_model.specs.declared.line.Command.{Command}
use Rattle.sv_model.specs.declared.line.Attachment.{Attachment}
use Rattle.sv_model.specs.declared.line.View.{View}
use Rattle.sv_model.specs.declared.line.Declared.{Declared}
use Rattle.sv_model.specs.declared.work.Access.{Access}
use Rattle.sv_model.specs.declared.work.Here.{Here}
use Rattle.sv_model.specs.declared.work.Step.{Step}
use Rattle.sv_model.specs.declared.work.Step.TheVariants.{Accesses, Groups, SetEvent, WaitEvent, ResetEvent}
use Rattle.sv_model.specs.declared.work.PassPoint.TheVariants.{Begin, Next, End}
use Rattle.sv_model.specs.Declarations.{recording_of, pass_of}
use Rattle.sv_model.specs.Positions.{numbered_steps}
use Rattle.sv_model.specs.Barriers.{area_of, place_of, subpass_of, element_group}
use Rattle.sv_model.specs.Rendering.{used, rendering_loads, rendering_stores, access_step}
use Rattle.sv_model.specs.Passes.{pass_steps}
use Rattle.sv_model.specs.declared.line.Command.TheVariants as command

-- The render scope in which a command stands: none, dynamic rendering, or a subpass of a pass.
pub data Scope : Type 0 where
  Outside : Scope
  InRendering : List Attachment → Scope
  InPass : ℕ → List View → ℕ → Scope

abbrev pub next_scope : Scope → Scope
next_scope (InPass pass views i) = InPass pass views (i + 1)
next_scope scope = scope

-- the scope after these commands, of which the latest stands first
abbrev pub scope_after : List Command → Scope
scope_after [] = Outside
scope_after (command.BeginRendering attachments ∷ before) = InRendering attachments
scope_after (command.EndRendering ∷ before) = Outside
scope_after (command.BeginPass pass views ∷ before) = InPass pass views 0
scope_after (command.NextSubpass ∷ before) = next_scope (scope_after before)
scope_after (command.EndPass ∷ before) = Outside
scope_after (other ∷ before) = scope_after before

abbrev pub subpass_in : Scope → Option ℕ
subpass_in Outside = None
subpass_in (InRendering attachments) = Some 0
subpass_in (InPass pass views i) = Some i

-- whether it begins an instance
abbrev pub begins : Command → Bool
begins (command.BeginRendering attachments) = true
begins (command.BeginPass pass views) = true
begins other = false

-- instances count from 0; a command outside a scope that begins none has the number 0
abbrev pub instance_at : Command → List Command → Scope → ℕ
instance_at c before Outside = if begins c then count_by begins before else 0
instance_at c before inside = count_by begins before - 1

-- where a command stands after these, where so many steps stand before it
abbrev pub here_after : Recording → Command → List Command → ℕ → Here
here_after r c before step = record {
  rec = r.rec;
  family = r.family;
  cmd = length before;
  step = step;
  instance = instance_at c before (scope_after before);
  subpass = subpass_in (scope_after before);
}

abbrev pub declared_access : Here → Declared → Access
declared_access here d = used here (subpass_of here) (area_of d.res d.part)
    (unwrap_or (usage_of (stage_number d.stage) (access_number d.access)) 0) d.layout

-- the steps of the commands that begin, go on in and end no render scope
abbrev pub plain_steps : Here → Command → List Step
plain_steps here (command.Work accesses) = Accesses (map (declared_access here) accesses) ∷ []
plain_steps here (command.Barrier deps) = Groups (map (element_group here) deps) ∷ []
plain_steps here (command.SetEvent event deps) = SetEvent event (place_of here)
    (map (element_group here) deps) ∷ []
plain_steps here (command.WaitEvent event) = WaitEvent event (place_of here) ∷ []
plain_steps here (command.ResetEvent event) = ResetEvent event (place_of here) ∷ []
plain_steps here other = []

abbrev pub end_rendering : Here → Scope → List Step
end_rendering here (InRendering attachments) = access_step (rendering_stores here attachments)
end_rendering here other = []

abbrev pub next_subpass : Trace → Here → Scope → List Step
next_subpass t here (InPass pass views i) = pass_steps (pass_of t pass) views (Next (i + 1)) here
next_subpass t here other = []

abbrev pub end_pass : Trace → Here → Scope → List Step
end_pass t here (InPass pass views i) = pass_steps (pass_of t pass) views End here
end_pass t here other = []

-- the steps of one command, before they are numbered
abbrev pub steps_of : Trace → Here → Scope → Command → List Step
steps_of t here scope (command.BeginRendering attachments) = access_step (rendering_loads here attachments)
steps_of t here scope command.EndRendering = end_rendering here scope
steps_of t here scope (command.BeginPass pass views) = pass_steps (pass_of t pass) views Begin here
steps_of t here scope command.NextSubpass = next_subpass t here scope
steps_of t here scope command.EndPass = end_pass t here scope
steps_of t here scope plain = plain_steps here plain

-- the lowering of one command that stands there
abbrev pub lower : Trace → Here → Scope → Command → List Step
lower t here scope c = numbered_steps here.step (steps_of t here scope c)

abbrev pub followed : Trace → Recording → Command → List Command → List Step → List Step
followed t r c before steps = steps ++ lower t (here_after r c before (length steps)) (scope_after before) c

-- the steps of a recording's first commands, of which the latest stands first
unfoldable pub lowered : Trace → Recording → List Command → List Step
lowered t r [] = []
lowered t r (c ∷ before) = followed t r c before (lowered t r before)

abbrev pub steps_in : Trace → Option Recording → List Step
steps_in t None = []
steps_in t (Some r) = lowered t r (reverse r.commands)

-- the lowering of recording k
abbrev pub compile : Trace → ℕ → List Step
compile t k = steps_in t (recording_of t k)
