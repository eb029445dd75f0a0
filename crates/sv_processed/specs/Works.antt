-- What the work of some items stands for.
use Rattle.std.specs.Prelude.{ℕ, ◌≡◌, List, [], ◌++◌, IfSome, is_some, length, if◌then◌else◌}
use Rattle.std.specs.List.{All}
use Rattle.sv_model.specs.Places.{Bound}
use Rattle.sv_model.specs.Binding.{bound, step_made}
use Rattle.sv_model.specs.Events.{set_half, with_tokens, in_force}
use Rattle.sv_model.specs.Lawful.{IsLawful}
use Rattle.sv_model.specs.Primitives.{InForce, Made}
use Rattle.sv_model.specs.Positions.{numbered_step}
use Rattle.sv_model.specs.Work.{numbered}
use Rattle.sv_model.specs.declared.work.Group.{Group}
use Rattle.sv_binding.specs.Runs.{run_for}
use Rattle.sv_binding.specs.declared.run.Run.{Run}
use Rattle.sv_model.specs.declared.line.Trace.{Trace}
use Rattle.sv_model.specs.declared.work.Note.{Note}
use Rattle.sv_model.specs.declared.work.Step.{Step}
use Rattle.sv_event.specs.Stands.{EventsStandFor}
use Rattle.sv_fence.specs.Stands.{FencesStandFor}
use Rattle.sv_sema.specs.Stands.{SemaphoresStandFor}
use Rattle.sv_step_laws.specs.Steps.{IsGroupOf, IsStepOf}
use Rattle.sv_replies.specs.Replying.{IsReplySoFar}
use Rattle.sv_steps.specs.Checked.{HaveAreas, StandForSteps}
use Rattle.sv_processed.specs.declared.work.Work.{Work}

-- Semaphores, fences and events are as the items left them, and so are the numbers of instances and tokens.
pub record IsLeft (t : Trace) (m : Made) (w : Work) : Type 0 where
  pub semaphores : SemaphoresStandFor t m w.semaphores
  pub fences : FencesStandFor t m w.fences
  pub vulkan_events : EventsStandFor m w.events
  pub instances : w.instances ≡ m.instances
  pub tokens : w.tokens ≡ m.tokens

-- After some items of an event: what they left, the steps of the work before the event and those of the
-- items, and the reply so far.
pub record IsAt (t : Trace) (event : ℕ) (old more : List Bound) (m : Made) (w : Work) : Type 0 where
  pub left : IsLeft t m w
  pub steps : StandForSteps t (old ++ more) w.checks
  pub reply : IsReplySoFar t event old more w.checks.reply

-- the groups of each set in force lie inside the resources of the trace
abbrev pub SetsFit : Trace → Made → Type 0
SetsFit t m = (event : ℕ) → IfSome (in_force m event) (λ (x : InForce). All (IsGroupOf t) x.groups)

-- what the work names lies inside the resources of a lawful trace
pub record WorkFits (t : Trace) (w : Work) : Type 0 where
  pub lawful : IsLawful t
  pub areas : HaveAreas t w.checks
  pub left : Made
  pub events : EventsStandFor left w.events
  pub sets : SetsFit t left

-- so it is for some trace, in which the step lies too
pub record MayTake (w : Work) (s : Step) : Type 0 where
  pub trace : Trace
  pub fits : WorkFits trace w
  pub step : IsStepOf trace s

-- the step with that number, released by that event, with these notes
abbrev pub bound_as : ℕ → ℕ → Step → List Note → Bound
bound_as n event s notes = record { step = numbered_step n s; event = event; notes = notes }

-- the halves of a set with these groups
abbrev pub halves_of : Made → ℕ → List Group → List Group
halves_of m event groups = if is_some (in_force m event) then [] else with_tokens set_half m.tokens groups

-- one more step of a recording that runs there: its bound step is added, and what it does to events is left
abbrev pub is_step_after : Run → Step → Work → Work → Type 0
is_step_after r s before after = (t : Trace) (event : ℕ) (old more : List Bound) (m : Made)
    → IsAt t event old more m before
    → IsAt t event old (more ++ numbered (length (old ++ more)) (bound (run_for event r) m s))
    (step_made (run_for event r) m s) after
