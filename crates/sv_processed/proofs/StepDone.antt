-- One more step of a recording: what it leaves, and its bound step.
use Rattle.std.proofs.Common.{ℕ, ◌≡◌, List, [], ◌∷◌, ◌++◌, length, sym, subst}
use Rattle.sv_model.specs.Places.{Bound}
use Rattle.sv_model.specs.Binding.{bound, step_made}
use Rattle.sv_model.specs.Primitives.{Made}
use Rattle.sv_model.specs.Work.{numbered}
use Rattle.sv_model.specs.declared.line.Trace.{Trace}
use Rattle.sv_model.specs.declared.work.Group.{Group}
use Rattle.sv_model.specs.declared.work.Note.{Note}
use Rattle.sv_model.specs.declared.work.Step.{Step}
use Rattle.sv_model.specs.declared.work.Step.TheVariants.{Groups}
use Rattle.sv_binding.specs.Runs.{run_for}
use Rattle.sv_binding.specs.declared.run.Run.{Run}
use Rattle.sv_replies.specs.Replying.{IsReplySoFar}
use Rattle.sv_steps.specs.Checked.{StandForSteps}
use Rattle.sv_steps.specs.declared.checks.Checks.{Checks}
use Rattle.sv_processed.specs.Works.{IsAt, IsLeft, bound_as, is_step_after}
use Rattle.sv_processed.specs.declared.work.Work.{Work}

-- what take_groups says
abbrev pub Taken : Work → Work → List Group → List Note → Type 0
Taken before after groups notes = (t : Trace) (event : ℕ) (old more : List Bound) (m : Made)
    → IsAt t event old more m before → IsAt t event old
    (more ++ bound_as (length (old ++ more)) event (Groups groups) notes ∷ []) m after

pub step_done : (r : Run) (s : Step) (before between after : Work) (groups : List Group) (notes : List Note)
    → Taken between after groups notes
    → ((t : Trace) (event : ℕ) (m : Made) → IsLeft t m before
    → IsLeft t (step_made (run_for event r) m s) between) → between.checks ≡ before.checks
    → ((t : Trace) (event : ℕ) (m : Made) → IsLeft t m before → bound (run_for event r) m s
    ≡ record { step = Groups groups; event = event; notes = notes } ∷ []) → is_step_after r s before after
step_done r s before between after groups notes taken left checks given t event old more m is =
    let there : IsAt t event old more (step_made (run_for event r) m s) between = record {
      left = left t event m is.left;
      steps = subst (StandForSteps t (old ++ more)) (sym checks) is.steps;
      reply = subst (λ (c : Checks). IsReplySoFar t event old more c.reply) (sym checks) is.reply;
    } in
    subst (λ (bs : List Bound). IsAt t event old (more ++ numbered (length (old ++ more)) bs)
    (step_made (run_for event r) m s) after) (sym (given t event m is.left))
    (taken t event old more (step_made (run_for event r) m s) there)
