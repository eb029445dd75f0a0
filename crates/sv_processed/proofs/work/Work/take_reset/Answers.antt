use Rattle.std.proofs.Common.{[], ◌∷◌, refl, sym}
use Rattle.std.proofs.lemmas.Result.{on_ok_weaker}
use Rattle.sv_model.specs.declared.work.Step.TheVariants.{Groups, ResetEvent}
use Rattle.sv_processed.proofs.StepDone.{step_done}
use Rattle.sv_processed.proofs.EventChanges.{left_reset}
use Rattle.sv_processed.proofs.work.Work.take_reset.Goals as goal

pub returns-clause-at : goal.returns-clause-at
returns-clause-at c = on_ok_weaker c.take_groups.result (λ at run place.
    step_done run (ResetEvent c.args.event place) c.args.self.now
    (record c.args.self.now { events = c.reset.new.self }) c.take_groups.new.self c.new.result
    c.new-2.result at
    (λ t event m left. left_reset t m c.args.self.now left c.args.event c.reset.new.self
    (c.reset.ensures m left.vulkan_events)) refl
    (λ t event m left. (λ j. record {
      step = Groups (sym c.new.ensures j);
      event = event;
      notes = sym c.new-2.ensures j;
    } ∷ []))) c.take_groups.ensures.at
