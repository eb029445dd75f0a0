-- A recording in its slot.
use Rattle.std.proofs.Common.{ℕ, ◌≡◌, ◌+◌, ◌∙◌, ◌++◌, List, Option, Some, IfSome, ap, length, refl, subst}
use Rattle.std.proofs.Common.{sym}
use Rattle.std.specs.List.{All, fold}
use Rattle.sv_model.specs.Binding.{added_instances, instances_of, bound, step_made}
use Rattle.sv_model.specs.Places.{Bound}
use Rattle.sv_model.specs.Lists.{gather}
use Rattle.sv_model.specs.Lawful.{IsLawful}
use Rattle.sv_model.specs.Primitives.{Made}
use Rattle.sv_model.specs.Work.{numbered}
use Rattle.sv_model.specs.declared.line.Trace.{Trace}
use Rattle.sv_model.specs.declared.work.Step.{Step}
use Rattle.sv_binding.specs.Runs.{run_for}
use Rattle.sv_binding.specs.declared.run.Run.{Run}
use Rattle.sv_step_laws.specs.Steps.{IsStepOf}
use Rattle.sv_step_laws.proofs.Lowered.{inside}
use Rattle.sv_processed.specs.Works.{IsAt}
use Rattle.sv_processed.specs.declared.work.Work.{Work}
use Rattle.sv_processed.proofs.EventChanges.{events_same, fences_same, semaphores_same}
use Rattle.sv_batch.specs.Running.{IsPublication, are_steps_after, is_recording_after}
use Rattle.sv_batch.specs.declared.recordings.Published.{Published}

abbrev with_instances : Work → ℕ → Work
with_instances w n = record w { instances = n }

instances_added : (t : Trace) (event : ℕ) (old more : List Bound) (m : Made) (w : Work) (n added : ℕ) → n
    ≡ w.instances + added → IsAt t event old more m w
    → IsAt t event old more (added_instances added m) (with_instances w n)
instances_added t event old more m w n added is at = record {
  left = record {
    semaphores = semaphores_same t m (added_instances added m) w.semaphores refl refl at.left.semaphores;
    fences = fences_same t m (added_instances added m) w.fences refl at.left.fences;
    vulkan_events = events_same m (added_instances added m) w.events refl at.left.vulkan_events;
    instances = is ∙ ap (λ (k : ℕ). k + added) at.left.instances;
    tokens = at.left.tokens;
  };
  steps = at.steps;
  reply = at.reply;
}

pub recording_taken : (r : Run) (k : ℕ) (t : Trace) (x : Published) (w v : Work) (steps : List Step) (n : ℕ)
    → IsPublication t k x → steps ≡ x.steps → are_steps_after
    (record r { instance = w.instances }) steps w v → n ≡ v.instances + x.instances
    → is_recording_after r k t w (with_instances v n)
recording_taken r k t x w v steps n is same after sum event old more m at =
    instances_added t event old _ _ v n (instances_of t k)
    (sum ∙ ap (λ (i : ℕ). v.instances + i) is.instances)
    (subst (λ (list : List Step). IsAt t event old
    (more ++ numbered (length (old ++ more)) (gather
    (step_made (run_for event (record r { instance = m.instances })))
    (bound (run_for event (record r { instance = m.instances }))) m list))
    (fold (step_made (run_for event (record r { instance = m.instances }))) m list) v) (same ∙ is.steps)
    (subst (λ (i : ℕ). IsAt t event old (more ++ numbered (length (old ++ more))
    (gather (step_made (run_for event (record r { instance = i })))
    (bound (run_for event (record r { instance = i }))) m steps))
    (fold (step_made (run_for event (record r { instance = i }))) m steps) v) at.left.instances
    (after t event old more m at)))

-- the steps of a publication lie inside the resources of its lawful trace
pub publication_inside : (t : Trace) (k : ℕ) (x : Published) → IsLawful t → IsPublication t k x
    → All (IsStepOf t) x.steps
publication_inside t k x lawful is = subst (All (IsStepOf t)) (sym is.steps) (inside t k lawful)

pub found_is : (t : Trace) (k : ℕ) (x : Published) (o : Option Published) → Some x ≡ o
    → IfSome o (IsPublication t k) → IsPublication t k x
found_is t k x o same is = subst (λ (p : Option Published). IfSome p (IsPublication t k)) (sym same) is
