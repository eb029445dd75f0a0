use Rattle.std.proofs.Common.{◌<◌, ◌∙◌, List, ap, fold, length, subst, take, take_all}
use Rattle.std.proofs.lemmas.Result.{on_ok_weaker}
use Rattle.sv_model.specs.Semaphores.{wait_given, waited}
use Rattle.sv_model.specs.Lists.{gather}
use Rattle.sv_model.specs.Primitives.{Made}
use Rattle.sv_model.specs.declared.line.SemaphoreUse.{SemaphoreUse}
use Rattle.sv_binding.specs.Runs.{run_for}
use Rattle.sv_processed.specs.Works.{IsLeft}
use Rattle.sv_batch.proofs.OneMore.{folded_next, gathered_next}
use Rattle.sv_batch.proofs.UsesTaken.{fits_alike, step_at}
use Rattle.sv_batch.proofs.batches.take_waits.Goals as goal

pub loop-wait-preserved : goal.loop-wait-preserved
loop-wait-preserved c =
    let waits = c.args.waits.now in
    let i = c.loop-wait.wait-index in
    let lt : i < length waits = c.loop-wait-test.true in
    let inv = c.loop-wait.invariant in
    let after = c.in_ok-take_wait_on.ensures in record {
      checks = c.take_wait_on.ensures.checks ∙ inv.checks;
      vulkan_events = c.take_wait_on.ensures.events ∙ inv.vulkan_events;
      left = λ t m ready left. subst (λ (k : Made). IsLeft t k c.take_wait_on.new.work)
          (folded_next waited m waits i _ lt) (after.left t (fold waited m (take i waits))
          (ready.found i _ lt) (inv.left t m ready left));
      groups = λ t event m ready left. gathered_next waited
          (wait_given t (run_for event c.args.run)) m waits i _ c.loop-wait.groups c.take_wait_on.new.groups
          lt
          (after.groups t event (fold waited m (take i waits)) (ready.uses i _ lt)
          (inv.left t m ready left)) (inv.groups t event m ready left);
      fit = λ t. after.fit t (inv.fit t);
    }

pub take_groups-requires-clause-groups : goal.take_groups-requires-clause-groups
take_groups-requires-clause-groups c = record {
  trace = c.requires.trace;
  fits = fits_alike c.requires.trace c.args.work.now c.loop-wait.work c.loop-wait.invariant.checks
      c.loop-wait.invariant.vulkan_events c.requires.fits;
  step = c.loop-wait.invariant.fit c.requires.trace;
}

pub returns-clause-at : goal.returns-clause-at
returns-clause-at c =
    let inv = c.loop-wait.invariant in
    let all = take_all c.loop-wait.wait-index c.args.waits.now c.loop-wait-test.false in
    on_ok_weaker c.take_groups.result (λ at t event old more m ready is.
    step_at t event old more m (fold waited m c.args.waits.now) c.args.work.now c.loop-wait.work
    c.take_groups.new.self c.loop-wait.groups (gather waited
    (wait_given t (run_for event c.args.run)) m c.args.waits.now) c.new.result _ at is inv.checks
    (subst (λ (us : List SemaphoreUse). IsLeft t (fold waited m us) c.loop-wait.work) all
    (inv.left t m ready is.left))
    (inv.groups t event m ready is.left ∙ ap (gather waited (wait_given t (run_for event c.args.run)) m)
    all) c.new.ensures) c.take_groups.ensures.at
