use Rattle.std.proofs.Common.{List, [], ◌∷◌, ◌++◌, ◌≡◌, ◌∙◌, ap, length, map, refl, sym, subst}
use Rattle.std.specs.List.{All}
use Rattle.std.proofs.lemmas.Result.{on_ok_weaker}
use Rattle.sv_model.specs.Places.{bind_access, bind_group}
use Rattle.sv_model.specs.declared.work.Access.{Access}
use Rattle.sv_model.specs.declared.work.Step.{Step}
use Rattle.sv_model.specs.declared.work.Step.TheVariants.{Accesses, Groups}
use Rattle.sv_binding.specs.Runs.{run_for}
use Rattle.sv_step_laws.specs.Steps.{IsAccessOf, IsGroupOf, IsStepOf}
use Rattle.sv_step_laws.proofs.Areas.{bound_accesses, bound_groups}
use Rattle.sv_processed.specs.Works.{IsAt, MayTake, bound_as, is_step_after}
use Rattle.sv_processed.proofs.StepDone.{step_done}
use Rattle.sv_processed.proofs.work.Work.take_step.Goals as goal

pub take_accesses-requires : goal.take_accesses-requires
take_accesses-requires c =
    let may = subst (MayTake c.args.self.now) c.in-Accesses.is c.requires in
    let whole : c.as_slice-in-Accesses.result.now
    ≡ map (bind_access (run_for 0 c.args.run)) c.in-Accesses.accesses = c.as_slice-in-Accesses.ensures
    ∙ c.in_ok-bound-in-Accesses.ensures ∙ ap (map (bind_access (run_for 0 c.args.run))) c.as_slice.ensures
    in
    record {
      trace = may.trace;
      fits = may.fits;
      step =
          subst (All (IsAccessOf may.trace)) (sym whole)
          (bound_accesses may.trace (run_for 0 c.args.run) c.in-Accesses.accesses may.step);
    }

pub take_groups-requires-clause-groups : goal.take_groups-requires-clause-groups
take_groups-requires-clause-groups c =
    let may = subst (MayTake c.args.self.now) c.in-Groups.is c.requires in
    let whole : c.in_ok-bound-in-Groups.bound ≡ map (bind_group (run_for 0 c.args.run)) c.in-Groups.groups =
    c.in_ok-bound-in-Groups.ensures ∙ ap (map (bind_group (run_for 0 c.args.run)))
    c.as_slice-in-Groups.ensures in
    record {
      trace = may.trace;
      fits = may.fits;
      step =
          subst (All (IsGroupOf may.trace)) (sym whole)
          (bound_groups may.trace (run_for 0 c.args.run) c.in-Groups.groups may.step);
    }

pub returns-in_ok-bound-in-Accesses-clause-at : goal.returns-in_ok-bound-in-Accesses-clause-at
returns-in_ok-bound-in-Accesses-clause-at c =
    let whole : c.as_slice-in-Accesses.result.now
    ≡ map (bind_access (run_for 0 c.args.run)) c.in-Accesses.accesses = c.as_slice-in-Accesses.ensures
    ∙ c.in_ok-bound-in-Accesses.ensures ∙ ap (map (bind_access (run_for 0 c.args.run))) c.as_slice.ensures
    in
    on_ok_weaker c.take_accesses.result (λ at. subst
    (λ (s : Step). is_step_after c.args.run s c.args.self.now c.take_accesses.new.self)
    (sym c.in-Accesses.is) (λ t event old more m is.
    subst (λ (xs : List Access). IsAt t event old
    (more ++ bound_as (length (old ++ more)) event (Accesses xs) [] ∷ []) m c.take_accesses.new.self)
    whole (at t event old more m is))) c.take_accesses.ensures.at

pub returns-in_ok-bound-in-Groups-clause-at : goal.returns-in_ok-bound-in-Groups-clause-at
returns-in_ok-bound-in-Groups-clause-at c =
    let whole : c.in_ok-bound-in-Groups.bound ≡ map (bind_group (run_for 0 c.args.run)) c.in-Groups.groups =
    c.in_ok-bound-in-Groups.ensures ∙ ap (map (bind_group (run_for 0 c.args.run)))
    c.as_slice-in-Groups.ensures in
    on_ok_weaker c.take_groups.result (λ at. subst
    (λ (s : Step). is_step_after c.args.run s c.args.self.now c.take_groups.new.self) (sym c.in-Groups.is)
    (step_done c.args.run (Groups c.in-Groups.groups) c.args.self.now c.args.self.now c.take_groups.new.self
    c.in_ok-bound-in-Groups.bound c.new.result at (λ t event m left. left) refl
    (λ t event m left. (λ j. record {
      step = Groups (sym whole j);
      event = event;
      notes = sym c.new.ensures j;
    } ∷ [])))) c.take_groups.ensures.at

pub returns-in-SetEvent-clause-fits : goal.returns-in-SetEvent-clause-fits
returns-in-SetEvent-clause-fits c = on_ok_weaker c.take_set.result
    (λ after t is fits. after t (subst (All (IsGroupOf t)) (sym c.as_slice-in-SetEvent.ensures)
    (subst (IsStepOf t) c.in-SetEvent.is is)) fits) c.take_set.ensures.fits

pub returns-in-SetEvent-clause-at : goal.returns-in-SetEvent-clause-at
returns-in-SetEvent-clause-at c = on_ok_weaker c.take_set.result
    (λ at. subst (λ (s : Step). is_step_after c.args.run s c.args.self.now c.take_set.new.self)
    (sym c.in-SetEvent.is) (at c.in-SetEvent.place c.in-SetEvent.groups
    (sym c.as_slice-in-SetEvent.ensures))) c.take_set.ensures.at

pub returns-in-WaitEvent-clause-at : goal.returns-in-WaitEvent-clause-at
returns-in-WaitEvent-clause-at c = on_ok_weaker c.take_wait.result
    (λ at. subst (λ (s : Step). is_step_after c.args.run s c.args.self.now c.take_wait.new.self)
    (sym c.in-WaitEvent.is) at) c.take_wait.ensures.at

pub returns-in-ResetEvent-clause-at : goal.returns-in-ResetEvent-clause-at
returns-in-ResetEvent-clause-at c = on_ok_weaker c.take_reset.result
    (λ at. subst (λ (s : Step). is_step_after c.args.run s c.args.self.now c.take_reset.new.self)
    (sym c.in-ResetEvent.is) (at c.args.run c.in-ResetEvent.place)) c.take_reset.ensures.at
