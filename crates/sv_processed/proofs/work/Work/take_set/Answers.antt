use Rattle.std.proofs.Common.{List, [], ◌∷◌, ◌≡◌, ◌∙◌, ap, map, sym, subst}
use Rattle.std.specs.List.{All}
use Rattle.std.proofs.lemmas.Result.{on_ok_weaker}
use Rattle.sv_model.specs.Places.{bind_group}
use Rattle.sv_model.specs.Events.{event_set}
use Rattle.sv_model.specs.declared.line.Trace.{Trace}
use Rattle.sv_model.specs.declared.work.Group.{Group}
use Rattle.sv_model.specs.declared.work.Step.TheVariants.{Groups, SetEvent}
use Rattle.sv_binding.specs.Runs.{run_for}
use Rattle.sv_step_laws.specs.Steps.{IsGroupOf}
use Rattle.sv_step_laws.proofs.Areas.{bound_groups}
use Rattle.sv_processed.specs.Works.{IsLeft, halves_of}
use Rattle.sv_processed.proofs.StepDone.{step_done}
use Rattle.sv_processed.proofs.work.Work.take_set.Goals as goal

pub take_groups-requires-clause-groups : goal.take_groups-requires-clause-groups
take_groups-requires-clause-groups c =
    let t : Trace = c.requires.trace in
    let fit = c.in_ok-halves.ensures.fits t (subst (All (IsGroupOf t)) (sym c.in_ok-bound.ensures)
    (bound_groups t (run_for 0 c.args.run) c.args.groups.now c.requires.step)) c.requires.fits in
    record { trace = t; fits = fit.0; step = fit.1 }

pub returns-clause-fits : goal.returns-clause-fits
returns-clause-fits c = on_ok_weaker c.take_groups.result
    (λ after t all fits. after t (c.in_ok-halves.ensures.fits t
    (subst (All (IsGroupOf t)) (sym c.in_ok-bound.ensures)
    (bound_groups t (run_for 0 c.args.run) c.args.groups.now all)) fits).0) c.take_groups.ensures.fits

pub returns-clause-at : goal.returns-clause-at
returns-clause-at c = on_ok_weaker c.take_groups.result (λ at place list same.
    let groups : c.in_ok-bound.bound ≡ map (bind_group (run_for 0 c.args.run)) list = c.in_ok-bound.ensures
    ∙ ap (map (bind_group (run_for 0 c.args.run))) (sym same) in
    step_done c.args.run (SetEvent c.args.event place list) c.args.self.now c.set_event.new.self
    c.take_groups.new.self c.in_ok-halves.halves c.new.result at
    (λ t event m left. subst (λ (gs : List Group). IsLeft t
    (event_set m c.args.event c.args.run.queue gs) c.set_event.new.self) groups
    (c.in_ok-halves.ensures.left t m left))
    c.in_ok-halves.ensures.checks
    (λ t event m left. (λ j. record {
      step = Groups
          (sym (c.in_ok-halves.ensures.halves t m left ∙ ap (halves_of m c.args.event) groups) j);
      event = event;
      notes = sym c.new.ensures j;
    } ∷ []))) c.take_groups.ensures.at
