use Rattle.std.proofs.Common.{[], ◌∷◌, ◌∙◌, ap, refl, sym}
use Rattle.std.proofs.lemmas.Result.{on_ok_weaker}
use Rattle.sv_model.specs.Events.{event_notes, wait_groups, in_force}
use Rattle.sv_model.specs.declared.work.Place.{Place}
use Rattle.sv_model.specs.declared.work.Step.TheVariants.{Groups, WaitEvent}
use Rattle.sv_binding.specs.Runs.{run_for}
use Rattle.sv_processed.proofs.StepDone.{step_done}
use Rattle.sv_processed.proofs.work.Work.take_wait.Goals as goal

pub take_groups-requires-clause-groups : goal.take_groups-requires-clause-groups
take_groups-requires-clause-groups c = record {
  trace = c.requires.trace;
  fits = c.requires.fits;
  step = c.in_ok-groups.ensures.fit c.requires.trace c.requires.fits;
}

pub returns-clause-at : goal.returns-clause-at
returns-clause-at c = on_ok_weaker c.take_groups.result (λ at.
    step_done c.args.run (WaitEvent c.args.event c.args.place) c.args.self.now c.args.self.now
    c.take_groups.new.self c.in_ok-groups.groups c.in_ok-notes.notes at (λ t event m left. left) refl
    (λ t event m left. (λ j. record {
      step = Groups (sym (c.in_ok-groups.ensures.groups t m left
          ∙ ap (λ (p : Place). wait_groups (run_for 0 c.args.run) p (in_force m c.args.event))
          c.bind_place-place.ensures) j);
      event = event;
      notes = sym (c.in_ok-notes.ensures.notes t m left
          ∙ ap (λ (p : Place). event_notes (run_for 0 c.args.run) c.args.event p (in_force m c.args.event))
          c.bind_place-place.ensures) j;
    } ∷ []))) c.take_groups.ensures.at
