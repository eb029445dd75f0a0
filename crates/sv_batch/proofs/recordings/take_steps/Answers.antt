use Rattle.std.proofs.Common.{◌<◌, ◌+◌, List, length, subst, sym, take, take_all}
use Rattle.std.proofs.lemmas.List.Elements.{All-get_or}
use Rattle.sv_model.specs.Binding.{bound, step_made}
use Rattle.sv_model.specs.declared.work.Step.{Step}
use Rattle.sv_binding.specs.Runs.{run_for}
use Rattle.sv_step_laws.specs.Steps.{IsStepOf}
use Rattle.sv_batch.specs.Running.{are_steps_after}
use Rattle.sv_batch.proofs.OneMore.{at_one_more, next_item}
use Rattle.sv_batch.proofs.recordings.take_steps.Goals as goal

pub loop-step-preserved : goal.loop-step-preserved
loop-step-preserved c =
    let lt : c.loop-step.step-index < length c.args.steps.now = c.loop-step-test.true in
    let step = c.step-item.result in
    let r = c.args.run in record {
      fits = λ t is fits. c.in_ok-take_step.ensures.fits t
          (subst (IsStepOf t) (sym c.step-item.is) (All-get_or
          (IsStepOf t) c.args.steps.now c.loop-step.step-index step lt is))
          (c.loop-step.invariant.fits t is fits);
      at = λ t event old more m is. at_one_more t event old more (step_made (run_for event r))
          (bound (run_for event r)) m (take c.loop-step.step-index c.args.steps.now)
          (take (c.loop-step.step-index + 1) c.args.steps.now) step c.loop-step.work c.take_step.new.self
          (next_item c.args.steps.now c.loop-step.step-index step lt c.step-item.is)
          (c.loop-step.invariant.at t event old more m is)
          (λ later there. c.in_ok-take_step.ensures.at t event old later _ there);
    }

pub returns-clause-at : goal.returns-clause-at
returns-clause-at c = subst (λ (list : List Step). are_steps_after c.args.run list c.args.work.now
    c.loop-step.work) (take_all c.loop-step.step-index c.args.steps.now c.loop-step-test.false)
    c.loop-step.invariant.at
