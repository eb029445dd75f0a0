-- One more step of a work.
use Rattle.std.specs.Prelude.{Result, Ok, Err, OnOk}
use Rattle.std.proofs.Common.{ℕ, ◌<◌, ◌≡◌, ◌^◌, List, [], ◌∷◌, ◌++◌, length, refl, sym, ap, subst, ◌∙◌}
use Rattle.std.proofs.Common.{append_assoc}
use Rattle.std.specs.List.{All}
use Rattle.sv_model.specs.Places.{Bound}
use Rattle.sv_model.specs.Primitives.{Made}
use Rattle.sv_model.specs.Positions.{accesses_from, groups_from, numbered_step}
use Rattle.sv_model.specs.declared.line.Trace.{Trace}
use Rattle.sv_model.specs.declared.work.Access.{Access}
use Rattle.sv_model.specs.declared.work.Group.{Group}
use Rattle.sv_model.specs.declared.work.Note.{Note}
use Rattle.sv_model.specs.declared.work.Step.{Step}
use Rattle.sv_model.specs.declared.work.Step.TheVariants.{Accesses, Groups}
use Rattle.sv_space.specs.Steps.{IsNext}
use Rattle.sv_model.specs.Size.{HasShortOlds}
use Rattle.sv_step_laws.proofs.Areas.{numbered_is}
use Rattle.sv_step_laws.proofs.Numbered.{is_next}
use Rattle.sv_replies.specs.Replying.{IsOnNone, IsReplySoFar}
use Rattle.sv_steps.specs.Checked.{Fits, HaveAreas, StandForSteps}
use Rattle.sv_steps.specs.declared.checks.Checks.{Checks}
use Rattle.sv_steps.proofs.Inside.{step_fits}
use Rattle.sv_processed.specs.Works.{IsAt, IsLeft, MayTake, WorkFits, bound_as}
use Rattle.sv_processed.specs.declared.work.Work.{Work}

pub accesses_fit : (w : Work) (accesses list : List Access) (n : ℕ) → MayTake w (Accesses accesses) → list
    ≡ accesses_from n 0 accesses → Fits w.checks (Accesses list)
accesses_fit w accesses list n may same = subst (λ (xs : List Access). Fits w.checks (Accesses xs)) (sym same)
    (step_fits may.trace may.fits.lawful w.checks may.fits.areas n (Accesses (accesses_from n 0 accesses))
    (is_next n (Accesses accesses)) (numbered_is may.trace n (Accesses accesses) may.step) tt)

pub groups_fit : (w : Work) (groups list : List Group) (n : ℕ) → MayTake w (Groups groups) → list
    ≡ groups_from n 0 groups → length list < 2 ^ 32 → All HasShortOlds list → Fits w.checks (Groups list)
groups_fit w groups list n may same short olds =
    let is = subst (λ (gs : List Group). All HasShortOlds gs) same olds in
    let few = subst (λ (gs : List Group). length gs < 2 ^ 32) same short in
    subst (λ (gs : List Group). Fits w.checks (Groups gs)) (sym same)
    (step_fits may.trace may.fits.lawful w.checks may.fits.areas n (Groups (groups_from n 0 groups))
    (is_next n (Groups groups)) (numbered_is may.trace n (Groups groups) may.step) (few, is))

-- the work with other checks
abbrev pub with_checks : Work → Checks → Work
with_checks w c = record w { checks = c }

pub fits_after : (t : Trace) (w : Work) (c : Checks) → HaveAreas t c → WorkFits t w
    → WorkFits t (with_checks w c)
fits_after t w c has fits = record {
  lawful = fits.lawful;
  areas = has;
  left = fits.left;
  events = fits.events;
  sets = fits.sets;
}

pub left_after : (t : Trace) (m : Made) (w : Work) (c : Checks) → IsLeft t m w → IsLeft t m (with_checks w c)
left_after t m w c left = record {
  semaphores = left.semaphores;
  fences = left.fences;
  vulkan_events = left.vulkan_events;
  instances = left.instances;
  tokens = left.tokens;
}

-- what the checks say of one more step
abbrev Stands : Checks → Checks → Step → Type 0
Stands old new step = (t : Trace) (steps : List Bound) (b : Bound) → StandForSteps t steps old
    → IsNext (length steps) b.step → b.step ≡ step → StandForSteps t (steps ++ b ∷ []) new

abbrev Replies : Checks → Checks → Step → List Note → Type 0
Replies before after step notes = (t : Trace) (event : ℕ) (old more : List Bound) (b : Bound)
    → StandForSteps t (old ++ more) before → IsReplySoFar t event old more before.reply
    → IsNext (length (old ++ more)) b.step → b.step ≡ step → b.notes ≡ notes → All IsOnNone notes → b.event
    ≡ event → IsReplySoFar t event old (more ++ b ∷ []) after.reply

pub at_after : (w : Work) (c : Checks) (s step : Step) (notes : List Note) → step
    ≡ numbered_step w.checks.steps s → All IsOnNone notes → Stands w.checks c step
    → Replies w.checks c step notes
    → (t : Trace) (event : ℕ) (old more : List Bound) (m : Made) → IsAt t event old more m w
    → IsAt t event old (more ++ bound_as (length (old ++ more)) event s notes ∷ []) m (with_checks w c)
at_after w c s step notes is none stands replies t event old more m at =
    let b : Bound = bound_as (length (old ++ more)) event s notes in
    let next : IsNext (length (old ++ more)) b.step = is_next (length (old ++ more)) s in
    let same : b.step ≡ step = ap (λ (n : ℕ). numbered_step n s) (sym at.steps.count) ∙ sym is in record {
      left = left_after t m w c at.left;
      steps = subst (λ (bs : List Bound). StandForSteps t bs c) (append_assoc old more (b ∷ []))
          (stands t (old ++ more) b at.steps next same);
      reply = replies t event old more b at.steps at.reply next same refl none refl;
    }

pub on_ok_two : {A E : Type 0} (r : Result A E) {P Q R : Type 0} → (P → Q → R) → OnOk r P → OnOk r Q
    → OnOk r R
on_ok_two (Ok a) f p q = f p q
on_ok_two (Err e) f p q = tt
